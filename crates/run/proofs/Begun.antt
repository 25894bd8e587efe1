-- A line that was split by any letters: the state that it starts in, or why it is refused.
use mathlib.Core.List.{List, []}
use mathlib.Core.Logic.{◌⊎◌, ⊎_elim}
use mathlib.Core.Option.{Option, some, none}
use mathlib.Core.Path.{◌≡◌, refl, sym, ap, ◌∙◌, subst}
use Prim.Native.Nat.{ℕ, ◌-◌, ◌≤◌}
use native.Mathlib.Omega.{arith}
use lib.ListN.{length, replicate, length-append, length-replicate}
use Rattle.rules.specs.Outcome.{ok, Refusal, refuse}
use Rattle.rules.specs.Codes.{place_code}
use Rattle.rules.specs.Sheet.{sheet_area, sheet_fault, arguments}
use Rattle.rules.specs.Accept.{Letters}
use Rattle.rules.specs.Run.{Line, too_many, padded}
use Rattle.rules.specs.Calls.{to_raw}
use Rattle.rules.specs.Commands.{split_with}
use Rattle.rules.specs.declared.State.{State as Raw}
use Rattle.rules.proofs.SplitLaws.{LineGood, ok_injective, some≢none}
use Rattle.rules.proofs.CommandLaws.{Begins, SplitsWith, splits_with}
use Rattle.state_marks.specs.declared.Numbers.{Numbers}
use Rattle.state_marks.specs.Lent.{raw_of, numbers_of, state_of, Fine}
use Rattle.take_search.specs.Items.{Table}
use Rattle.split_args.specs.declared.Ended.{Ended as Split}
use Rattle.split_args.specs.Construct.{starting_state as begun, SplitEnds, refusal_number, refusal_place}
use Rattle.run.proofs.States.{from_to, raw_fine}
use Rattle.run.proofs.Back.{line_table}

pub padded_long : (n : ℕ) (w : List ℕ) → length w ≤ n → length (padded n w) ≡ n
unfolding padded
padded_long n w h =
    let a = length-append w (replicate (n - length w) 0) in
    let b = length-replicate {A = ℕ} (n - length w) 0 in
    omega arith

-- the state of marks and numbers is the line's, over its items
pub record LineBegins (sheet items m : List ℕ) (p : Numbers) (l : Line) : Type 0 where
  pub free : l.refusal ≡ none
  pub table : Table (sheet_area sheet) items l.items
  pub fine : Fine m p
  pub long : length m ≡ 256
  pub count : length l.items ≡ p.count
  pub same : state_of m p ≡ l.state

-- 8 or 9, which list nothing
pub record LineRefused (x : Split) (l : Line) : Type 0 where
  pub refusal : Refusal
  pub there : l.refusal ≡ some refusal
  pub number : refusal.number ≡ x.number
  pub place : place_code refusal.place ≡ x.place
  pub plain : refusal.missing ≡ []

-- ---- what splitting by letters gave
module _ (ls : Letters) (sheet : List ℕ) (l : Line) (splits : split_with ls sheet ≡ ok l) where
  law : SplitsWith ls sheet
  law = splits_with ls sheet

  same_line : law.line ≡ l
  same_line = ok_injective (sym law.splits ∙ splits)

  either : (l ≡ too_many) ⊎ LineGood (arguments sheet) l
  either = subst (λ (y : Line). (y ≡ too_many) ⊎ LineGood (arguments sheet) y) same_line law.good

  plainly : (e : Refusal) → l.refusal ≡ some e → e.missing ≡ []
  unfolding too_many
  plainly e h =
      ⊎_elim
      (λ (t : l ≡ too_many). let z : e ≡ refuse 8 none = cc in rw z refl)
      (λ (g : LineGood (arguments sheet) l). rw (g.refusal e h).1 refl)
      either

  numbered : (e : Refusal) → l.refusal ≡ some e → e.number ≡ 0 → ⊥
  unfolding too_many
  numbered e h z =
      ⊎_elim
      (λ (t : l ≡ too_many). let y : e ≡ refuse 8 none = cc in let n : e.number ≡ 8 = rw y refl in omega arith)
      (λ (g : LineGood (arguments sheet) l). let n : e.number ≡ 9 = rw (g.refusal e h).1 refl in omega arith)
      either

  module _ (free : l.refusal ≡ none) where
    pub unrefused_good : LineGood (arguments sheet) l
    unfolding too_many
    unrefused_good = ⊎_elim (λ (t : l ≡ too_many). absurd (some≢none (ap (λ (z : Line). z.refusal) (sym t) ∙ free))) (λ g. g) either

    pub unrefused_begins : Begins l.items l.state
    unrefused_begins = subst (λ (y : Line). y.refusal ≡ none → Begins y.items y.state) same_line law.begins free

module _ (ls : Letters) (sheet : List ℕ) (n : ℕ) (items : List ℕ) (x : Split) (w : SplitEnds ls sheet n items x) where
  pub line_splits : split_with ls sheet ≡ ok w.line
  unfolding split_with
  line_splits = w.same

  pub line_refused : (x.number ≡ 0 → ⊥) → LineRefused x w.line
  line_refused y = go w.line.refusal refl
    where
      go : (o : Option Refusal) → w.line.refusal ≡ o → LineRefused x w.line
      go none h = absurd (y (w.number ∙ ap refusal_number h))
      go (some e) h = record {
        refusal = e;
        there = h;
        number = sym (w.number ∙ ap refusal_number h);
        place = sym (w.place ∙ ap refusal_place h);
        plain = plainly ls sheet w.line line_splits e h;
      }

  module _ (m : List ℕ) (p : Numbers) (q : raw_of m p ≡ begun x.count x.marker) where
    pub state_is : raw_of m p ≡ to_raw w.line.state
    state_is = q ∙ w.state

    module _ (y : x.number ≡ 0) where
      pub unrefused : w.line.refusal ≡ none
      unrefused = go w.line.refusal refl
        where
          go : (o : Option Refusal) → w.line.refusal ≡ o → w.line.refusal ≡ none
          go none h = h
          go (some e) h = absurd (numbered ls sheet w.line line_splits e h (sym (w.number ∙ ap refusal_number h) ∙ y))

      good : LineGood (arguments sheet) w.line
      good = unrefused_good ls sheet w.line line_splits unrefused

      pub line_begins : sheet_fault sheet ≡ 0 → 1792 ≤ n → LineBegins sheet items m p w.line
      unfolding to_raw state_of
      line_begins checked room = record {
        free = unrefused;
        table = rw w.words (line_table ls sheet w.line n checked line_splits unrefused good room);
        fine =
            subst (λ (u : Raw). Fine u.marks (numbers_of u)) (sym state_is)
            (raw_fine (length w.line.items) w.line.state good.few good.good);
        long =
            ap (λ (u : Raw). length u.marks) state_is
            ∙ padded_long 256 w.line.state.marks (omega (arith, good.good.long, good.few));
        count = sym good.good.long ∙ sym (ap (λ (u : Raw). u.count) state_is);
        same = rw state_is (from_to w.line.state);
      }
