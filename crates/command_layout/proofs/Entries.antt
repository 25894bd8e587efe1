-- What the tests of a table say of its entries, and what stands at a number.
use mathlib.Core.Bool.{true, not, ◌&&◌}
use mathlib.Core.List.{List, map}
use mathlib.Core.Logic.{inr}
use mathlib.Core.Option.{some, none}
use mathlib.Core.Path.{◌≡◌, refl, sym, ◌∙◌, ap}
use Prim.Native.Nat.{ℕ, ◌+◌, ◌-◌, ◌*◌, ◌≤◌, ◌<◌}
use native.Mathlib.Omega.{arith}
use lib.Dec.{leb}
use lib.ListN.{length, take, drop, get_elem?, length-map}
use borrow.Author.Tests.{leb-true}
use Rattle.wire.specs.Wire.{table_good, entry_of, HasEntry as WireEntry}
use Rattle.wire.specs.Laws.{good_table, start_least}
use Rattle.rules.specs.Base.{all, null, numbers}
use Rattle.rules.specs.Outcome.{ok, refuse}
use Rattle.rules.specs.Form.{read_name}
use Rattle.rules.specs.Commands.{entry_count, offsets_good, table_entries, entry_names, entry_area, entry_area_at, entry_form_at, Command, read_command, of_type, command_name_good}
use Rattle.rules.specs.Commands.{entry_good, table_in}
use Rattle.rules.proofs.Acceptance.{and-true, all_true, All-at, numbers_length, mapped_at}
use Rattle.rules.proofs.CallsAnswer.{if_ok}
use Rattle.rules.proofs.CommandForms.{entry_there, command_there}
use Rattle.form_names.specs.Names.{name_of}
use Rattle.form_names.specs.declared.Name as names
use Rattle.form_layout.proofs.Sizes.{from, from_drop, record_drop}
use Rattle.command_layout.specs.Tables.{HasEntry, EntryFits, FormOf}

-- ---- the offsets
pub record GoodOffsets (t : List ℕ) : Type 0 where
  pub least : 1 ≤ entry_count t
  pub most : entry_count t ≤ 32
  pub table : table_good 4 (entry_count t) t ≡ true
  pub long : entry_count t + 3 ≤ length t

pub good_offsets : (t : List ℕ) → offsets_good t ≡ true → GoodOffsets t
unfolding offsets_good
good_offsets t e =
    let n = entry_count t in
    let p = and-true (leb 1 n && leb n 32) (table_good 4 n t) e in
    let q = and-true (leb 1 n) (leb n 32) p.0 in
    let long = (good_table 4 n t p.1).long in
    record {
      least = leb-true 1 n q.0;
      most = leb-true n 32 q.1;
      table = p.1;
      long = omega (arith, start_least 4 n (inr refl));
    }

pub wire_entry : (t : List ℕ) (k : ℕ) → HasEntry t k → WireEntry 4 (entry_count t) t k
wire_entry t k h = record { width = inr refl; good = (good_offsets t h.good).table; below = h.below }

-- ---- an entry
module _ (e : List ℕ) where
  pub area_there : entry_area_at e ≡ 4 + 6 * entry_names e
  unfolding entry_area_at
  area_there = refl

  pub form_there : entry_form_at e ≡ entry_area_at e + entry_area e
  unfolding entry_form_at
  form_there = refl

  -- what the test of an entry says
  pub record GoodEntry : Type 0 where
    pub fits : EntryFits e
    pub names : all (command_name_good (read_command e).area) (read_command e).names ≡ true
    pub long : not (null (of_type 1 (read_command e))) ≡ true

  pub good_entry : entry_good e ≡ true → GoodEntry
  unfolding entry_good
  good_entry h =
      let counts = leb (entry_names e) 128 && leb (entry_area e) 4096 in
      let fits = leb (entry_form_at e) (length e) in
      let named = all (command_name_good (read_command e).area) (read_command e).names in
      let p = and-true (counts && fits && named) (not (null (of_type 1 (read_command e)))) h in
      let q = and-true (counts && fits) named p.0 in
      let r = and-true counts fits q.0 in
      let s = and-true (leb (entry_names e) 128) (leb (entry_area e) 4096) r.0 in
      let room = leb-true (entry_form_at e) (length e) r.1 in
      record {
        fits = record {
          counts = record {
            head = omega (arith, area_there, form_there);
            names = leb-true (entry_names e) 128 s.0;
            area = leb-true (entry_area e) 4096 s.1;
          };
          fits = room;
        };
        names = q.1;
        long = p.1;
      }

  pub names_length : length (read_command e).names ≡ entry_names e
  unfolding read_command
  names_length = length-map (numbers (entry_names e) 0) _ ∙ numbers_length (entry_names e) 0

  pub record_there :
      (k : ℕ) (x : names.Name) → k < entry_names e → name_of x ≡ read_name (from 4 e) (6 * k) → get_elem? (read_command e).names k ≡ some (name_of x)
  unfolding read_command
  record_there k x h same =
      mapped_at (λ k. read_name e (4 + 6 * k)) (entry_names e) k h ∙ ap some (sym (same ∙ rw (from_drop 4 e) (record_drop e 4 (6 * k))))

  pub area_part : (a f : ℕ) → a ≡ entry_area_at e → f ≡ entry_form_at e → take (f - a) (drop a e) ≡ (read_command e).area
  unfolding read_command
  area_part a f p q = let size : f - a ≡ entry_area e = omega (arith, form_there) in rw (size, p)

  pub form_part_lem : (f : ℕ) → f ≡ entry_form_at e → from f e ≡ (read_command e).form
  unfolding read_command
  form_part_lem f p = from_drop f e ∙ rw p

-- ---- the commands of a table
module _ (t : List ℕ) (cs : List Command) (reads : table_in t ≡ ok cs) where
  tested : (offsets_good t && all entry_good (table_entries t) ≡ true) × (map read_command (table_entries t) ≡ cs)
  unfolding table_in
  tested = if_ok (offsets_good t && all entry_good (table_entries t)) (map read_command (table_entries t)) cs (refuse 11 none) reads

  pub table_offsets : offsets_good t ≡ true
  table_offsets = (and-true (offsets_good t) (all entry_good (table_entries t)) tested.0).0

  pub table_entries_lem : all entry_good (table_entries t) ≡ true
  table_entries_lem = (and-true (offsets_good t) (all entry_good (table_entries t)) tested.0).1

  module _ (k : ℕ) (below : k < entry_count t) where
    pub entry_good_lem : GoodEntry (entry_of 4 (entry_count t) t k)
    entry_good_lem = good_entry _ (All-at _ (table_entries t) k _ (all_true entry_good (table_entries t) table_entries_lem) (entry_there t k below))

    pub has_entry : HasEntry t k
    has_entry = record { good = table_offsets; below = below }

    pub form_of_command : (b : List ℕ) → b ≡ (read_command (entry_of 4 (entry_count t) t k)).form → FormOf cs k b
    form_of_command b same = record { command = read_command (entry_of 4 (entry_count t) t k); here = command_there t cs reads k below; form = sym same }
