-- What the entry points on items hand back, and what their parts find.
use Rattle.std.specs.Prelude.{Bool, ◌&&◌, List, ◌≡◌, ℕ, leb, ltb, eqb, get_or, replicate}
use Rattle.std.proofs.Math.Option.{Option, some, none}
use Rattle.std.specs.Prelude.{if◌then◌else◌}
use Rattle.rules.specs.Outcome.{ok}
use Rattle.rules.specs.Sheet.{sheet_area}
use Rattle.rules.specs.Split.{Item}
use Rattle.rules.specs.State.{present}
use Rattle.rules.specs.Calls.{item_from, Called, call_get}
use Rattle.rules.specs.declared.State.{State as Raw}
use Rattle.rules.specs.Codes.{place_of}
use Rattle.split_arg.specs.Items.{record_at}
use Rattle.call_item.specs.declared.Got.{Got}

-- ---- `get`
-- in scope and present
unfoldable pub free_at : Raw → ℕ → Bool
free_at x i = (leb x.start i && ltb i x.end) && present (get_or x.marks i 0)

-- the item that the words are, and the state that was given
unfoldable pub got_of : List ℕ → Raw → Got → Called (Option Item)
got_of area x r = record {
  number = r.number;
  place = place_of r.place;
  answer = if eqb r.number 0 then some (item_from area r.item) else none;
  state = x;
}

-- the record of an item that was found, else 0
unfoldable pub got_words : List ℕ → ℕ → Option (Option Item) → List ℕ
got_words words i none = replicate 7 0
got_words words i (some none) = replicate 7 0
got_words words i (some (some x)) = record_at words i

pub record Gets (s words : List ℕ) (x : Raw) (i : ℕ) (r : Got) : Type 0 where
  pub same : call_get s words x i ≡ ok (got_of (sheet_area s) x r)
  pub item : r.item ≡ got_words words i (got_of (sheet_area s) x r).answer

abbrev pub nothing_got : ℕ → Got
nothing_got n = record { number = n; place = 0; item = replicate 7 0 }
