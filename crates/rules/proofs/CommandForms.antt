-- The form of an entry, as a part of the table.
use mathlib.Core.Bool.{Bool, true, false}
use mathlib.Core.List.{List, [], ◌∷◌}
use mathlib.Core.Logic.{◌⊎◌, inl, inr}
use mathlib.Core.Option.{some, none}
use mathlib.Core.Path.{◌≡◌, refl, sym, ap, ◌∙◌}
use Prim.Native.Nat.{ℕ, zero, suc, ◌+◌, ◌-◌, ◌<◌}
use native.Mathlib.Omega.{arith}
use lib.Dec.{ltb}
use lib.ListN.{length, take, drop, get_elem?, length-map}
use lib.Seq.{drop-drop}
use borrow.Author.Tests.{ltb-true, ltb-false}
use Rattle.std.specs.Prelude.{if◌then◌else◌}
use Rattle.wire.specs.Wire.{offset, area_start, area, entry_of}
use Rattle.rules.specs.Base.{numbers}
use Rattle.rules.specs.Outcome.{ok, refused, ◌>>=◌, refuse}
use Rattle.rules.specs.Commands.{entry_count, table_entries, entry_form_at, Command, read_command, table_in, form_part, call_command_form}
use Rattle.rules.specs.CommandsAnswered.{FormAnswered, no_table, no_entry, part}
use Rattle.rules.proofs.Acceptance.{numbers_length, mapped_at}
use Rattle.rules.proofs.CommandLaws.{lookup_map, table_answers, table_entries_lem}

-- ---- what is behind a place in the front of a list
front_again : (n : ℕ) (l : List ℕ) → take (length (take n l)) l ≡ take n l
front_again zero l = refl
front_again (suc n) [] = refl
front_again (suc n) (x ∷ l) = ap (λ (r : List ℕ). x ∷ r) (front_again n l)

behind_front : (f n : ℕ) (l : List ℕ) → take (length (drop f (take n l))) (drop f l) ≡ drop f (take n l)
behind_front zero n l = front_again n l
behind_front (suc f) zero l = refl
behind_front (suc f) (suc n) [] = refl
behind_front (suc f) (suc n) (x ∷ l) = behind_front f n l

-- ---- the entries and the commands of a table
module _ (t : List ℕ) where
  pub entry_there : (k : ℕ) → k < entry_count t → get_elem? (table_entries t) k ≡ some (entry_of 4 (entry_count t) t k)
  unfolding table_entries
  entry_there k below = mapped_at (entry_of 4 (entry_count t) t) (entry_count t) k below

  pub entries_count : length (table_entries t) ≡ entry_count t
  unfolding table_entries
  entries_count = length-map (numbers (entry_count t) 0) _ ∙ numbers_length (entry_count t) 0

  module _ (cs : List Command) (reads : table_in t ≡ ok cs) where
    pub commands_count : length cs ≡ entry_count t
    commands_count = ap length (sym (table_entries_lem t cs reads).1) ∙ length-map (table_entries t) read_command ∙ entries_count

    pub command_there : (k : ℕ) → k < entry_count t → get_elem? cs k ≡ some (read_command (entry_of 4 (entry_count t) t k))
    command_there k below = rw (← (table_entries_lem t cs reads).1) (lookup_map read_command (table_entries t) k _ (entry_there k below))

-- ---- a form
module _ (t : List ℕ) (k : ℕ) where
  form_there : take (form_part t k).size (drop (form_part t k).offset t) ≡ (read_command (entry_of 4 (entry_count t) t k)).form
  unfolding form_part read_command entry_of area
  form_there =
      let start = area_start 4 (entry_count t) in
      let at = offset 4 t k in
      let f = entry_form_at (entry_of 4 (entry_count t) t k) in
      let size = offset 4 t (k + 1) - at in
      rw (← drop-drop f (start + at) t, ← drop-drop at start t) (behind_front f size (drop at (drop start t)))

  -- any table, and any number
  pub command_form : FormAnswered t k (call_command_form t k)
  unfolding call_command_form ◌>>=◌
  command_form = go (table_answers t)
    where
      entry : (cs : List Command) → table_in t ≡ ok cs → (b : Bool) → ltb k (length cs) ≡ b → FormAnswered t k (if b then ok (form_part t k) else refused (refuse 28 none))
      entry cs e true h = part cs _ (form_part t k) e (command_there t cs e k (omega (arith, ltb-true k (length cs) h, commands_count t cs e))) form_there
      entry cs e false h = no_entry cs e (ltb-false k (length cs) h)

      go : ((cs : List Command) × (table_in t ≡ ok cs)) ⊎ (table_in t ≡ refused (refuse 11 none)) → FormAnswered t k (call_command_form t k)
      go (inl (cs, e)) = rw e (entry cs e (ltb k (length cs)) refl)
      go (inr e) = rw e no_table
