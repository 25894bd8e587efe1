-- Lines from the bench: document 01's (P) lines, each with all that is reported. Then a line on a form with all eleven kinds.
use Rattle.std.specs.Prelude.{true, false, List, [], ◌∷◌, ℕ}
use Rattle.std.proofs.Math.Option.{Option, some, none}
use Rattle.rules.specs.Form.{Node, Name, Form}
use Rattle.rules.specs.Split.{Item, Short, Long, ArgWord, Word, PosWord, dash, equals, records_from}
use Rattle.rules.specs.State.{State}
use Rattle.rules.specs.Run.{Report, padded}

-- ---- characters
abbrev pub three : ℕ
three = 51

abbrev pub four : ℕ
four = 52

abbrev pub seven : ℕ
seven = 55

abbrev pub a : ℕ
a = 97

abbrev pub b : ℕ
b = 98

abbrev pub c : ℕ
c = 99

abbrev pub f : ℕ
f = 102

abbrev pub l : ℕ
l = 108

abbrev pub n : ℕ
n = 110

abbrev pub q : ℕ
q = 113

abbrev pub s : ℕ
s = 115

abbrev pub t : ℕ
t = 116

abbrev pub u : ℕ
u = 117

abbrev pub v : ℕ
v = 118

abbrev pub w : ℕ
w = 119

abbrev pub x : ℕ
x = 120

abbrev pub y : ℕ
y = 121

abbrev pub z : ℕ
z = 122

-- ---- nodes and names
abbrev pub node : (kind p q r : ℕ) → Node
node kind p q r = record { kind = kind; p = p; q = q; r = r; lo = 0; hi = 0 }

-- with one name, told by its number
abbrev pub flag : ℕ → Node
flag name = node 1 name 1 0

abbrev pub switch : ℕ → Node
switch name = node 1 name 1 1

abbrev pub text_argument : ℕ → Node
text_argument name = node 2 name 1 0

abbrev pub number_argument : ℕ → Node
number_argument name = node 2 name 1 2

abbrev pub adjacent_number : ℕ → Node
adjacent_number name = node 2 name 1 3

-- positionals, of text
abbrev pub positional : Node
positional = node 3 0 0 0

abbrev pub strict_positional : Node
strict_positional = node 3 1 0 0

-- around a child, told by its number, with no catch
abbrev pub wrap : (kind child : ℕ) → Node
wrap kind child = node kind child 0 0

abbrev pub optional : ℕ → Node
optional child = wrap 4 child

abbrev pub many : ℕ → Node
many child = wrap 5 child

abbrev pub some_of : ℕ → Node
some_of child = wrap 6 child

abbrev pub count : ℕ → Node
count child = wrap 7 child

abbrev pub last : ℕ → Node
last child = wrap 8 child

abbrev pub choice : ℕ → ℕ → Node
choice first second = node 9 first second 0

abbrev pub fallback : (child value : ℕ) → Node
fallback child value = record { kind = 10; p = child; q = 0; r = 0; lo = value; hi = 0 }

abbrev pub guard : (child lo hi : ℕ) → Node
guard child lo hi = record { kind = 11; p = child; q = 0; r = 0; lo = lo; hi = hi }

-- a name of one letter, and a long one, by where they stand in the area
abbrev pub letter : ℕ → Name
letter offset = record { type = 0; offset = offset; size = 1 }

abbrev pub long : (offset size : ℕ) → Name
long offset size = record { type = 1; offset = offset; size = size }

-- ---- forms
-- flags v, q; number argument w; letter b both. Each may be missing
abbrev pub letters : Form
letters = record {
  fields = 0 ∷ 1 ∷ 3 ∷ 5 ∷ 7 ∷ [];
  nodes =
      switch 0 ∷
      switch 1 ∷
      number_argument 2 ∷ optional 2 ∷
      flag 3 ∷ optional 4 ∷
      text_argument 4 ∷ optional 6 ∷ [];
  names = letter 0 ∷ letter 1 ∷ letter 2 ∷ letter 3 ∷ letter 4 ∷ [];
  area = v ∷ q ∷ w ∷ b ∷ b ∷ [];
}

-- count of switch v
abbrev pub count_switch : Form
count_switch = record { fields = 1 ∷ []; nodes = switch 0 ∷ count 0 ∷ []; names = letter 0 ∷ []; area = v ∷ [] }

-- count of required v
abbrev pub count_flag : Form
count_flag = record { fields = 1 ∷ []; nodes = flag 0 ∷ count 0 ∷ []; names = letter 0 ∷ []; area = v ∷ [] }

-- many of optional required v
abbrev pub many_optional : Form
many_optional = record { fields = 2 ∷ []; nodes = flag 0 ∷ optional 0 ∷ many 1 ∷ []; names = letter 0 ∷ []; area = v ∷ [] }

-- choice of required v, required q
abbrev pub v_or_q : Form
v_or_q = record {
  fields = 2 ∷ [];
  nodes = flag 0 ∷ flag 1 ∷ choice 0 1 ∷ [];
  names = letter 0 ∷ letter 1 ∷ [];
  area = v ∷ q ∷ [];
}

-- text positional, then guard 1..5 of fallback 9 of number w
abbrev pub guarded_fallback : Form
guarded_fallback = record {
  fields = 0 ∷ 3 ∷ [];
  nodes = positional ∷ number_argument 0 ∷ fallback 1 9 ∷ guard 2 1 5 ∷ [];
  names = letter 0 ∷ [];
  area = w ∷ [];
}

-- required f; optional of text t; many of adjacent number n; count of switch c; last of text `--last`; choice of required x,
-- switch y; guard 1..9 of fallback 9 of number w; some of strict positional
abbrev pub eleven_kinds : Form
eleven_kinds = record {
  fields = 0 ∷ 2 ∷ 4 ∷ 6 ∷ 8 ∷ 11 ∷ 14 ∷ 16 ∷ [];
  nodes =
      flag 0 ∷
      text_argument 1 ∷ optional 1 ∷
      adjacent_number 2 ∷ many 3 ∷
      switch 3 ∷ count 5 ∷
      text_argument 4 ∷ last 7 ∷
      flag 5 ∷ switch 6 ∷ choice 9 10 ∷
      number_argument 7 ∷ fallback 12 9 ∷ guard 13 1 9 ∷
      strict_positional ∷ some_of 15 ∷ [];
  names = letter 0 ∷ letter 1 ∷ letter 2 ∷ letter 3 ∷ long 4 4 ∷ letter 8 ∷ letter 9 ∷ letter 10 ∷ [];
  area = f ∷ t ∷ n ∷ c ∷ l ∷ a ∷ s ∷ t ∷ x ∷ y ∷ w ∷ [];
}

-- ---- lines
-- a form and a sheet's arguments, and what is reported: `items` are those of each argument
pub record Entry : Type 0 where
  pub form : Form
  pub arguments : List (List ℕ)
  pub items : List (List Item)
  pub state : State
  pub number : ℕ
  pub place : Option ℕ
  pub tries : ℕ
  pub words : List ℕ

-- the item slice has the items' records, the answer slice the words, zeros after each; the list is all 0, for none is refused with 20
unfoldable pub reported : Entry → Report
reported e = record {
  number = e.number;
  place = e.place;
  tries = e.tries;
  words = e.words;
  state = e.state;
  items = padded 1792 (records_from 0 e.arguments e.items);
  answers = padded 8240 e.words;
  list = padded 192 [];
}

unfoldable pub entries : List Entry
entries =
    -- ``
    record {
      form = letters;
      arguments = [] ∷ [];
      items = (Word [] ∷ []) ∷ [];
      state = record { marks = 0 ∷ []; remaining = 1; current = none; start = 0; end = 1 };
      number = 27;
      place = some 0;
      tries = 5;
      words = [];
    }
    ∷  -- `-`
    record {
      form = letters;
      arguments = (dash ∷ []) ∷ [];
      items = (Word (dash ∷ []) ∷ []) ∷ [];
      state = record { marks = 0 ∷ []; remaining = 1; current = none; start = 0; end = 1 };
      number = 27;
      place = some 0;
      tries = 5;
      words = [];
    }
    ∷  -- `---`
    record {
      form = letters;
      arguments = (dash ∷ dash ∷ dash ∷ []) ∷ [];
      items = (Long (dash ∷ []) false (dash ∷ dash ∷ dash ∷ []) ∷ []) ∷ [];
      state = record { marks = 0 ∷ []; remaining = 1; current = none; start = 0; end = 1 };
      number = 27;
      place = some 0;
      tries = 5;
      words = [];
    }
    ∷  -- `--=7`
    record {
      form = letters;
      arguments = (dash ∷ dash ∷ equals ∷ seven ∷ []) ∷ [];
      items = (Long [] true (dash ∷ dash ∷ equals ∷ seven ∷ []) ∷ ArgWord (seven ∷ []) ∷ []) ∷ [];
      state = record { marks = 0 ∷ 0 ∷ []; remaining = 2; current = none; start = 0; end = 2 };
      number = 27;
      place = some 0;
      tries = 5;
      words = [];
    }
    ∷  -- `--` `-v`
    record {
      form = letters;
      arguments = (dash ∷ dash ∷ []) ∷ (dash ∷ v ∷ []) ∷ [];
      items = (PosWord (dash ∷ dash ∷ []) ∷ []) ∷ (PosWord (dash ∷ v ∷ []) ∷ []) ∷ [];
      state = record { marks = 510 ∷ 0 ∷ []; remaining = 1; current = none; start = 0; end = 2 };
      number = 27;
      place = some 1;
      tries = 5;
      words = [];
    }
    ∷  -- `-x`
    record {
      form = letters;
      arguments = (dash ∷ x ∷ []) ∷ [];
      items = (Short x false (dash ∷ x ∷ []) ∷ []) ∷ [];
      state = record { marks = 0 ∷ []; remaining = 1; current = none; start = 0; end = 1 };
      number = 27;
      place = some 0;
      tries = 5;
      words = [];
    }
    ∷  -- `-vx`
    record {
      form = letters;
      arguments = (dash ∷ v ∷ x ∷ []) ∷ [];
      items = (Word (dash ∷ v ∷ x ∷ []) ∷ []) ∷ [];
      state = record { marks = 0 ∷ []; remaining = 1; current = none; start = 0; end = 1 };
      number = 27;
      place = some 0;
      tries = 5;
      words = [];
    }
    ∷  -- `-vq`
    record {
      form = letters;
      arguments = (dash ∷ v ∷ q ∷ []) ∷ [];
      items = (Short v false (dash ∷ v ∷ q ∷ []) ∷ Short q false [] ∷ []) ∷ [];
      state = record { marks = 512 ∷ 513 ∷ []; remaining = 0; current = some 1; start = 0; end = 2 };
      number = 0;
      place = none;
      tries = 5;
      words = 1 ∷ 1 ∷ 0 ∷ 0 ∷ 0 ∷ [];
    }
    ∷  -- `-vw7`
    record {
      form = letters;
      arguments = (dash ∷ v ∷ w ∷ seven ∷ []) ∷ [];
      items = (Short v false (dash ∷ v ∷ w ∷ seven ∷ []) ∷ Short w true (dash ∷ v ∷ w ∷ seven ∷ []) ∷ Word (seven ∷ []) ∷ []) ∷ [];
      state = record { marks = 512 ∷ 514 ∷ 514 ∷ []; remaining = 0; current = some 2; start = 0; end = 3 };
      number = 0;
      place = none;
      tries = 5;
      words = 1 ∷ 0 ∷ 1 ∷ 7 ∷ 0 ∷ 0 ∷ [];
    }
    ∷  -- `-vw`
    record {
      form = letters;
      arguments = (dash ∷ v ∷ w ∷ []) ∷ [];
      items = (Short v false (dash ∷ v ∷ w ∷ []) ∷ Short w false (dash ∷ v ∷ w ∷ []) ∷ []) ∷ [];
      state = record { marks = 512 ∷ 0 ∷ []; remaining = 1; current = some 0; start = 0; end = 2 };
      number = 22;
      place = some 1;
      tries = 3;
      words = [];
    }
    ∷  -- `-vw=7`
    record {
      form = letters;
      arguments = (dash ∷ v ∷ w ∷ equals ∷ seven ∷ []) ∷ [];
      items = (Short v true (dash ∷ v ∷ w ∷ equals ∷ seven ∷ []) ∷ ArgWord (w ∷ equals ∷ seven ∷ []) ∷ []) ∷ [];
      state = record { marks = 512 ∷ 0 ∷ []; remaining = 1; current = some 0; start = 0; end = 2 };
      number = 27;
      place = some 1;
      tries = 5;
      words = [];
    }
    ∷  -- `-vb`
    record {
      form = letters;
      arguments = (dash ∷ v ∷ b ∷ []) ∷ [];
      items = (Short v false (dash ∷ v ∷ b ∷ []) ∷ Word (dash ∷ v ∷ b ∷ []) ∷ []) ∷ [];
      state = record { marks = 0 ∷ 0 ∷ []; remaining = 2; current = none; start = 0; end = 2 };
      number = 9;
      place = some 1;
      tries = 0;
      words = [];
    }
    ∷  -- `-b`
    record {
      form = letters;
      arguments = (dash ∷ b ∷ []) ∷ [];
      items = (Short b false (dash ∷ b ∷ []) ∷ []) ∷ [];
      state = record { marks = 515 ∷ []; remaining = 0; current = some 0; start = 0; end = 1 };
      number = 0;
      place = none;
      tries = 5;
      words = 0 ∷ 0 ∷ 0 ∷ 1 ∷ 1 ∷ 0 ∷ [];
    }
    ∷  -- no arguments
    record {
      form = count_switch;
      arguments = [];
      items = [];
      state = record { marks = []; remaining = 0; current = none; start = 0; end = 0 };
      number = 0;
      place = none;
      tries = 1;
      words = 1 ∷ [];
    }
    ∷  -- no arguments
    record {
      form = count_flag;
      arguments = [];
      items = [];
      state = record { marks = []; remaining = 0; current = none; start = 0; end = 0 };
      number = 0;
      place = none;
      tries = 1;
      words = 0 ∷ [];
    }
    ∷  -- no arguments
    record {
      form = many_optional;
      arguments = [];
      items = [];
      state = record { marks = []; remaining = 0; current = none; start = 0; end = 0 };
      number = 0;
      place = none;
      tries = 2;
      words = 1 ∷ 0 ∷ [];
    }
    ∷  -- `-q` `-v`
    record {
      form = v_or_q;
      arguments = (dash ∷ q ∷ []) ∷ (dash ∷ v ∷ []) ∷ [];
      items = (Short q false (dash ∷ q ∷ []) ∷ []) ∷ (Short v false (dash ∷ v ∷ []) ∷ []) ∷ [];
      state = record { marks = 512 ∷ 2 ∷ []; remaining = 1; current = some 0; start = 0; end = 2 };
      number = 27;
      place = some 1;
      tries = 2;
      words = [];
    }
    ∷  -- `a`
    record {
      form = guarded_fallback;
      arguments = (a ∷ []) ∷ [];
      items = (Word (a ∷ []) ∷ []) ∷ [];
      state = record { marks = 512 ∷ []; remaining = 0; current = some 0; start = 0; end = 1 };
      number = 26;
      place = some 0;
      tries = 2;
      words = [];
    }
    ∷ []

-- `-f` `-ccx` `-n=3` `-n=4` `--last` `z` `-tu` `--` `s`
unfoldable pub all_kinds : Entry
all_kinds = record {
  form = eleven_kinds;
  arguments =
      (dash ∷ f ∷ []) ∷
      (dash ∷ c ∷ c ∷ x ∷ []) ∷
      (dash ∷ n ∷ equals ∷ three ∷ []) ∷
      (dash ∷ n ∷ equals ∷ four ∷ []) ∷
      (dash ∷ dash ∷ l ∷ a ∷ s ∷ t ∷ []) ∷
      (z ∷ []) ∷
      (dash ∷ t ∷ u ∷ []) ∷
      (dash ∷ dash ∷ []) ∷
      (s ∷ []) ∷ [];
  items =
      (Short f false (dash ∷ f ∷ []) ∷ []) ∷
      (Short c false (dash ∷ c ∷ c ∷ x ∷ []) ∷ Short c false [] ∷ Short x false [] ∷ []) ∷
      (Short n true (dash ∷ n ∷ equals ∷ three ∷ []) ∷ ArgWord (three ∷ []) ∷ []) ∷
      (Short n true (dash ∷ n ∷ equals ∷ four ∷ []) ∷ ArgWord (four ∷ []) ∷ []) ∷
      (Long (l ∷ a ∷ s ∷ t ∷ []) false (dash ∷ dash ∷ l ∷ a ∷ s ∷ t ∷ []) ∷ []) ∷
      (Word (z ∷ []) ∷ []) ∷
      (Short t true (dash ∷ t ∷ u ∷ []) ∷ Word (u ∷ []) ∷ []) ∷
      (PosWord (dash ∷ dash ∷ []) ∷ []) ∷
      (PosWord (s ∷ []) ∷ []) ∷ [];
  state = record { marks = 512 ∷ 515 ∷ 515 ∷ 517 ∷ 514 ∷ 514 ∷ 514 ∷ 514 ∷ 516 ∷ 516 ∷ 513 ∷ 513 ∷ 510 ∷ 519 ∷ []; remaining = 0; current = some 13; start = 0; end = 14 };
  number = 0;
  place = none;
  tries = 15;
  words = 1 ∷ 1 ∷ 11 ∷ 2 ∷ 3 ∷ 4 ∷ 2 ∷ 9 ∷ 1 ∷ 9 ∷ 1 ∷ 13 ∷ [];
}
