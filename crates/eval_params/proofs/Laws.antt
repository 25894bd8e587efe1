-- How leaves end.
use mathlib.Core.Bool.{Bool, true, false, not}
use mathlib.Core.List.{List}
use mathlib.Core.Option.{Option, some, none}
use mathlib.Core.Path.{◌≡◌, refl, sym, ap, subst, ◌∙◌}
use Prim.Native.Nat.{ℕ, ◌+◌}
use native.Mathlib.Numerals.{add-one}
use borrow.Author.Tests.{not-true, not-false}
use Rattle.std.specs.Prelude.{if◌then◌else◌}
use Rattle.rules.specs.Outcome.{Spot, Outcome, ok, refused, parse_flag559, take_argument679, ◌>>=◌, Refusal, refuse}
use Rattle.rules.specs.Value.{Base, text, number, is_number, Value, base, word, words}
use Rattle.rules.specs.Tree.{Named, Position, Tree, Flag, Argument, Positional}
use Rattle.rules.specs.Split.{Item}
use Rattle.rules.specs.State.{State}
use Rattle.rules.specs.Take.{Took, took, Taken, Operand, take_flag, take_arg, take_positional_word}
use Rattle.rules.specs.Calls.{from_raw}
use Rattle.rules.specs.Eval.{visit, leaf, refuse_missing, not_found, flag_value, eval_flag, number_of, parse_text, argument_value, eval_argument, wrong_position, placed_value}
use Rattle.rules.specs.Eval.{positional_value}
use Rattle.rules.specs.Eval.{eval_positional, eval}
use Rattle.rules.specs.Sound.{is_named}
use Rattle.rules.proofs.Nodes.{named_shown}
use Rattle.rules.proofs.CodeLaws.{code_place}
use Rattle.state_marks.specs.declared.Numbers.{Numbers}
use Rattle.state_marks.specs.Lent.{state_of}
use Rattle.take_search.specs.Items.{part_bytes}
use Rattle.std.specs.Prelude.{Some, None, Ok, Err}
use Rattle.std.specs.Prelude as prelude
use Rattle.eval_number.specs.Number.{option_of}
use Rattle.take.specs.declared.Flag.{Flag as TookFlag}
use Rattle.take.specs.declared.Word.{Word}
use Rattle.take.specs.declared.NoArgument.{NoArgument}
use Rattle.take.specs.declared.Argument.{Argument as TookArgument}
use Rattle.take.specs.declared.Operand.{Operand as TookOperand}
use Rattle.take.specs.declared.Positional.{Positional as TookPositional}
use Rattle.take_search.specs.States.{Items}
use Rattle.take.specs.Takes.{value_of, ValueUnchanged, operand_of, TakesFlag, TakesArg, TakesPositional}
use Rattle.eval_told.specs.declared.Ran.{Ran}
use Rattle.eval_told.specs.Told.{told, scalar_words, Evaluates}
use Rattle.eval_params.specs.Leaves.{leaf_value, leaf_refusal, leaf_run, LeafTells}

-- ---- a text

module _ (place : ℕ) (bytes : List ℕ) (s : State) where
  abbrev numeral : Option ℕ → Outcome Value
  numeral o = elim o [ none ↦ refused (refuse 25 s.current) | some n ↦ ok (base (is_number n)) ]

  is_number_lem : (n : ℕ) → number_of bytes ≡ some n → parse_text number place bytes s ≡ ok (base (is_number n))
  unfolding parse_text
  is_number_lem n e = ap numeral e

  no_number : number_of bytes ≡ none → parse_text number place bytes s ≡ refused (refuse 25 s.current)
  unfolding parse_text
  no_number e = ap numeral e

module _ (place : ℕ) (bytes : List ℕ) (p : Numbers) (numeric : Bool) where
  pub text_tells : not numeric ≡ true → (r : Ran) → r ≡ leaf_value place p
      → LeafTells (parse_text (if numeric then number else text) place bytes) p r
  unfolding told leaf_run parse_text words word scalar_words
  text_tells e r er = rw (er, not-true numeric e) (record { same = λ m. refl; kept = refl })

  module _ (e : not numeric ≡ false) (found : prelude.Option ℕ) (read : option_of found ≡ number_of bytes) where
    pub number_tells : (n : ℕ) → found ≡ Some n → (r : Ran) → r ≡ leaf_value n p
        → LeafTells (parse_text (if numeric then number else text) place bytes) p r
    unfolding told leaf_run words word scalar_words
    number_tells n h r er = rw (er, not-false numeric e) (record {
      same = λ m. ap (λ (o : Outcome Value). told (leaf_run o (state_of m p))) (is_number_lem place bytes (state_of m p) n (sym read ∙ ap option_of h));
      kept = refl;
    })

    pub bad_tells : found ≡ None → (r : Ran) → r ≡ leaf_refusal 25 p.current p
        → LeafTells (parse_text (if numeric then number else text) place bytes) p r
    unfolding told leaf_run scalar_words state_of from_raw
    bad_tells h r er = rw (er, not-false numeric e) (record {
      same = λ m.
          ap (λ (o : Outcome Value). told (leaf_run o (state_of m p))) (no_number place bytes (state_of m p) (sym read ∙ ap option_of h))
          ∙ rw (code_place p.current);
      kept = refl;
    })

-- ---- a position

module _ (p : Numbers) (at : Position) (b : Base) (x : Operand) (wrong : prelude.Option ℕ) (e : wrong_position at x.strict ≡ option_of wrong) where
  abbrev placing : State → Option ℕ → Outcome Value
  placing s o = elim o [ none ↦ parse_text b x.place x.text s | some n ↦ refused (refuse n (some x.place)) ]

  placed_at : (s : State) (o : prelude.Option ℕ) → wrong ≡ o → placed_value at b x s ≡ placing s (option_of o)
  unfolding placed_value
  placed_at s o h = ap (placing s) (e ∙ ap option_of h)

  pub wrong_tells : (n : ℕ) → wrong ≡ Some n → (r : Ran) → r ≡ leaf_refusal n (x.place + 1) p → LeafTells (placed_value at b x) p r
  unfolding told leaf_run scalar_words
  wrong_tells n h r er = rw (er, add-one) (record {
    same = λ m. ap (λ (o : Outcome Value). told (leaf_run o (state_of m p))) (placed_at (state_of m p) (Some n) h);
    kept = refl;
  })

  pub right_tells : wrong ≡ None → (r : Ran) → LeafTells (parse_text b x.place x.text) p r → LeafTells (placed_value at b x) p r
  right_tells h r d = record {
    same = λ m. ap (λ (o : Outcome Value). told (leaf_run o (state_of m p))) (placed_at (state_of m p) None h) ∙ d.same m;
    kept = d.kept;
  }

-- ---- one try of a leaf

leaf_told : {A : Type 0} (t : Tree) (s : State) (o : Outcome (Took A)) (f : A → State → Outcome Value) (a : A) (u : State) → o ≡ took a u
    → told (visit t s (leaf s o f)) ≡ told (leaf_run (f a u) u)
unfolding told visit leaf took leaf_run
leaf_told {A} t s o f a u e = ap (λ (x : Outcome (Took A)). told (visit t s (leaf s x f))) e

-- the take's own refusal
leaf_refused : {A : Type 0} (t : Tree) (s : State) (o : Outcome (Took A)) (f : A → State → Outcome Value) (e : Refusal) → o ≡ refused e
    → told (visit t s (leaf s o f)) ≡ told (leaf_run (refused e) s)
unfolding told visit leaf leaf_run
leaf_refused {A} t s o f e h = ap (λ (x : Outcome (Took A)). told (visit t s (leaf s x f))) h

-- a leaf that has a name is refused with 20
named_missing : (unnamed : Spot) (n : ℕ) (names : Named) (s : State) → is_named names ≡ true
    → not_found unnamed n names s ≡ refused (refuse_missing n s)
unfolding not_found ◌>>=◌
named_missing unnamed n names s h = rw (named_shown names h)

module _ (mark : ℕ) (area words m : List ℕ) (p : Numbers) (m' : List ℕ) where
  module _ (names : Named) (shown : is_named names ≡ true) where
    -- ---- flags
    module _ (switch : Bool) (r : TookFlag) (d : TakesFlag mark area words names m p m' r) (q : Ran) where
      flag_told : (b : Bool) → r.found ≡ b → (n : ℕ) (is : List Item) → Items area words p is
          → told (eval mark is (Flag n names switch) (state_of m p))
          ≡ told (leaf_run (flag_value n names switch b (state_of m' r.numbers)) (state_of m' r.numbers))
      unfolding eval eval_flag
      flag_told b h n is t =
          leaf_told (Flag n names switch) (state_of m p) (take_flag mark is names (state_of m p)) (flag_value n names switch) b (state_of m' r.numbers)
          (d.same is t ∙ ap (λ (x : Bool). took x (state_of m' r.numbers)) h)

      pub flag_yes : r.found ≡ true → q ≡ leaf_value 1 r.numbers → (n : ℕ) → Evaluates mark area words (Flag n names switch) m p m' q
      unfolding told leaf_run flag_value words word scalar_words
      flag_yes h eq n = rw eq (record { same = λ is t. flag_told true h n is t; left = d.left })

      pub flag_no : r.found ≡ false → switch ≡ true → q ≡ leaf_value 0 r.numbers
          → (n : ℕ) → Evaluates mark area words (Flag n names switch) m p m' q
      unfolding told leaf_run flag_value words word scalar_words
      flag_no h w eq n = rw eq (record { same = λ is t. flag_told false h n is t ∙ rw w; left = d.left })

      pub flag_refused : r.found ≡ false → switch ≡ false → q ≡ leaf_refusal 20 0 r.numbers
          → (n : ℕ) → Evaluates mark area words (Flag n names switch) m p m' q
      unfolding told leaf_run flag_value refuse_missing scalar_words
      flag_refused h w eq n =
          let u : State = state_of m' r.numbers in
          rw eq (record {
            same = λ is t.
                flag_told false h n is t
                ∙ rw w (ap (λ (o : Outcome Value). told (leaf_run o u)) (named_missing parse_flag559 n names u shown));
            left = d.left;
          })

    -- ---- arguments
    module _ (b : Base) (adjacent : Bool) (r : TookArgument) (d : TakesArg mark area words names adjacent m p m' r) (q : Ran) where
      argument_told : (x : Option Taken) → value_of area m' r.numbers r.value ≡ took x (state_of m' r.numbers)
          → (n : ℕ) (is : List Item) → Items area words p is
          → told (eval mark is (Argument n names b adjacent) (state_of m p))
          ≡ told (leaf_run (argument_value n names b x (state_of m' r.numbers)) (state_of m' r.numbers))
      unfolding eval eval_argument
      argument_told x h n is t =
          leaf_told (Argument n names b adjacent) (state_of m p) (take_arg mark is names adjacent (state_of m p)) (argument_value n names b) x (state_of m' r.numbers)
          (d.same is t ∙ h)

      pub argument_missing : r.value ≡ Ok None → q ≡ leaf_refusal 20 0 r.numbers
          → (n : ℕ) → Evaluates mark area words (Argument n names b adjacent) m p m' q
      unfolding told leaf_run argument_value refuse_missing scalar_words
      argument_missing h eq n =
          let u : State = state_of m' r.numbers in
          rw eq (record {
            same = λ is t.
                argument_told none (ap (value_of area m' r.numbers) h) n is t
                ∙ ap (λ (o : Outcome Value). told (leaf_run o u)) (named_missing take_argument679 n names u shown);
            left = d.left;
          })

      pub argument_taken : (w : Word) → r.value ≡ Ok (Some w) → LeafTells (parse_text b w.place (part_bytes area w.text)) r.numbers q
          → (n : ℕ) → Evaluates mark area words (Argument n names b adjacent) m p m' q
      unfolding argument_value
      argument_taken x h w n =
          record {
            same = λ is t.
                argument_told (some (record { place = x.place; text = part_bytes area x.text })) (ap (value_of area m' r.numbers) h) n is t
                ∙ w.same m';
            left = rw w.kept d.left;
          }

      -- 22: the state is the one that was given
      pub argument_refused : (k : NoArgument) → r.value ≡ Err k → q ≡ leaf_refusal 22 (k.key + 1) r.numbers
          → (n : ℕ) → Evaluates mark area words (Argument n names b adjacent) m p m' q
      unfolding told leaf_run eval eval_argument scalar_words
      argument_refused i h eq n =
          let k : (m' ≡ m) × (r.numbers ≡ p) = subst (ValueUnchanged m p m' r.numbers) h d.unchanged in
          rw (eq, add-one) (record {
            same = λ is t.
                leaf_refused (Argument n names b adjacent) (state_of m p) (take_arg mark is names adjacent (state_of m p)) (argument_value n names b) (refuse 22 (some i.key))
                (d.same is t ∙ ap (value_of area m' r.numbers) h)
                ∙ rw (k.0, k.1);
            left = d.left;
          })

  -- ---- positionals
  module _ (at : Position) (b : Base) (r : TookPositional) (d : TakesPositional mark area words m p m' r) (q : Ran) where
    positional_told : (x : Option Operand) → operand_of area m' r.numbers r.operand ≡ took x (state_of m' r.numbers)
        → (n : ℕ) (is : List Item) → Items area words p is
        → told (eval mark is (Positional n at b) (state_of m p))
        ≡ told (leaf_run (positional_value n at b x (state_of m' r.numbers)) (state_of m' r.numbers))
    unfolding eval eval_positional
    positional_told x h n is t =
        leaf_told (Positional n at b) (state_of m p) (take_positional_word mark is (state_of m p)) (positional_value n at b) x (state_of m' r.numbers)
        (d.same is t ∙ h)

    pub positional_missing : r.operand ≡ None → q ≡ leaf_refusal 20 0 r.numbers
        → (n : ℕ) → Evaluates mark area words (Positional n at b) m p m' q
    unfolding told leaf_run positional_value refuse_missing scalar_words
    positional_missing h eq n = rw eq (record {
      same = λ is t. positional_told none (ap (operand_of area m' r.numbers) h) n is t;
      left = d.left;
    })

    pub positional_taken : (x : TookOperand) → r.operand ≡ Some x
        → LeafTells (placed_value at b (record { place = x.place; strict = x.strict; text = part_bytes area x.text })) r.numbers q
        → (n : ℕ) → Evaluates mark area words (Positional n at b) m p m' q
    unfolding positional_value
    positional_taken x h w n =
        let y : Operand = record { place = x.place; strict = x.strict; text = part_bytes area x.text } in
        record {
          same = λ is t.
              positional_told (some y) (ap (operand_of area m' r.numbers) h) n is t
              ∙ w.same m';
          left = rw w.kept d.left;
        }
