-- The steps of the tests: of an entry, of its names, of a table, of its forms.
use mathlib.Core.Bool.{Bool, true, false, not, ◌&&◌, false≢true, and-true as and_one, and-false}
use mathlib.Core.List.{List, [], ◌∷◌, map}
use mathlib.Core.Logic.{inr}
use mathlib.Core.Option.{Option, some, some-injective, none-ne-some}
use mathlib.Core.Path.{◌≡◌, refl, sym, ◌∙◌, ap, subst}
use Prim.Native.Nat.{ℕ, zero, suc, ◌+◌, ◌-◌, ◌≤◌, ◌<◌}
use native.Mathlib.Nat.{add-zero, zero-add}
use native.Mathlib.Numerals.{add-one}
use native.Mathlib.Omega.{arith}
use lib.Dec.{leb, eqb}
use lib.ListN.{length, get_elem?, get_or, length-drop}
use borrow.Author.Tests.{eq-eqb, ne_eqb, le-leb, leb-true, lt-leb, lt-ltb, le-ltb, not-true, not-false}
use borrow.Author.Count.{below_more}
use Rattle.std.specs.Prelude.{if◌then◌else◌, MatchBool}
use Rattle.std.specs.List.{range_with_len, AllWithin, HoldsAt}
use Rattle.std.proofs.lemmas.List.FromFn.{length-range_with_len, get_or-range_with_len}
use Rattle.wire.specs.Wire.{table_good, area_start, offset, entry_of}
use Rattle.wire.specs.Laws.{start_most, placed, entry_length}
use Rattle.rules.specs.Base.{all, null, concat_map, first_fault}
use Rattle.rules.specs.Outcome.{ok, refused, ◌>>=◌, refuse}
use Rattle.rules.specs.Form.{Name, name_bytes, name_good}
use Rattle.rules.specs.Accept.{Checked, Accepted, accepted, refused_at, check_form}
use Rattle.rules.specs.Codes.{check_code}
use Rattle.rules.specs.Given.{form_in}
use Rattle.rules.specs.Commands.{entry_count, offsets_good, table_entries, entry_names, entry_area, entry_form_at, Command, read_command, of_type}
use Rattle.rules.specs.Commands.{command_name_good, entry_good, table_in, forms_in, table_forms, form_good, entry_at_fault, form_part, call_command_form}
use Rattle.rules.specs.Reported.{number_of, place_told, told}
use Rattle.rules.specs.declared.Refused.{Refused}
use Rattle.rules.specs.declared.RefusedAt.{RefusedAt}
use Rattle.rules.proofs.ReportedLaws.{numbered, check_place}
use Rattle.rules.proofs.Acceptance.{and-true, all_true, All-at, lookup_inside}
use Rattle.rules.proofs.CommandForms.{entry_there, entries_count, commands_count}
use Rattle.rules.proofs.GivenLaws.{check_accepted}
use Rattle.form_names.specs.Names.{name_of}
use Rattle.form_names.specs.declared.Name as names
use Rattle.command_layout.specs.Tables.{EntryFits, HasEntry, HasCommands, FormOf}
use Rattle.command_layout.proofs.Entries.{good_offsets, area_there, form_there, names_length, table_offsets, entry_good_lem, wire_entry}
use Rattle.command_check.specs.declared.FormPart.{FormPart}
use Rattle.command_check.specs.Told.{table_told, part_told, TableTested}

-- ---- a list whose elements are tested one after the other
abbrev pub PassesAt : {A : Type 0} → (A → Bool) → List A → ℕ → Type 0
PassesAt {A} p l j = (x : A) → get_elem? l j ≡ some x → p x ≡ true

all_pass : {A : Type 0} (p : A → Bool) (l : List A) → ((j : ℕ) → PassesAt p l j) → all p l ≡ true
unfolding all
all_pass p [] h = refl
all_pass p (x ∷ l) h = rw (h 0 x refl) (all_pass p l (λ j. h (suc j)))

module _ {A : Type 0} (p : A → Bool) (l : List A) (k : ℕ) where
  one_fails : (x : A) → get_elem? l k ≡ some x → p x ≡ false → all p l ≡ false
  one_fails x e f = go (all p l) refl
    where
      go : (b : Bool) → all p l ≡ b → b ≡ false
      go false h = refl
      go true h = absurd (false≢true (sym f ∙ All-at (λ (a : A). p a ≡ true) l k x (all_true p l h) e))

  module _ (before : (j : ℕ) → j < k → PassesAt p l j) where
    one_passes : (x : A) → get_elem? l k ≡ some x → p x ≡ true → (j : ℕ) → j < k + 1 → PassesAt p l j
    one_passes x e h =
        below_more (PassesAt p l) k before (λ y f. subst (λ (a : A). p a ≡ true) (some-injective x y (sym e ∙ f)) h)

    all_passed : length l ≤ k → all p l ≡ true
    all_passed h = all_pass p l (λ j x e. before j (omega (arith, lookup_inside l j x e)) x e)

-- ---- what `all` and `any` answer over the numbers below n
module _ (n : ℕ) (Yes No : ℕ → Type 0) where
  long : length (range_with_len 0 n) ≡ n
  long = length-range_with_len 0 n

  here : (k : ℕ) → k < n → get_or (range_with_len 0 n) k 0 ≡ k
  here k h = get_or-range_with_len 0 n k 0 h ∙ zero-add k

  pub range_any :
      (r : Bool)
      → MatchBool r ((k : ℕ) × (k < length (range_with_len 0 n)) × HoldsAt Yes (range_with_len 0 n) k) (AllWithin No (range_with_len 0 n) 0 (length (range_with_len 0 n)))
      → MatchBool r ((k : ℕ) × (k < n) × Yes k) ((k : ℕ) → k < n → No k)
  range_any true (k, h, y) = (k, omega (arith, long), subst Yes (here k (omega (arith, long))) (y 0))
  range_any false f = λ k h. subst No (here k h) (f k 0 (omega arith) (omega (arith, long)))

  pub range_all :
      (r : Bool)
      → MatchBool r (AllWithin Yes (range_with_len 0 n) 0 (length (range_with_len 0 n))) ((k : ℕ) × (k < length (range_with_len 0 n)) × HoldsAt No (range_with_len 0 n) k)
      → MatchBool r ((k : ℕ) → k < n → Yes k) ((k : ℕ) × (k < n) × No k)
  range_all true f = λ k h. subst Yes (here k h) (f k 0 (omega arith) (omega (arith, long)))
  range_all false (k, h, y) = (k, omega (arith, long), subst No (here k (omega (arith, long))) (y 0))

-- what holds of the element at k
abbrev pub Found : {A : Type 0} → List A → (A → Type 0) → ℕ → Type 0
Found {A} l P k = (x : A) × (get_elem? l k ≡ some x) × P x

pub all_answered :
    {A : Type 0} (p : A → Bool) (l : List A) (n : ℕ)
    → length l ≡ n
    → (r : Bool)
    → MatchBool r ((k : ℕ) → k < n → Found l (λ x. true ≡ p x) k) ((k : ℕ) × (k < n) × Found l (λ x. false ≡ p x) k)
    → r ≡ all p l
all_answered {A} p l n many true each =
    sym (all_passed p l n (λ j below x e. let s = each j below in subst (λ (a : A). p a ≡ true) (some-injective s.0 x (sym s.1 ∙ e)) (sym s.2)) (omega arith))
all_answered p l n many false (k, below, s) = sym (one_fails p l k s.0 s.1 (sym s.2))

-- ---- an entry
module _ (e : List ℕ) where
  abbrev Fits : Bool
  Fits = (leb (entry_names e) 128 && leb (entry_area e) 4096) && leb (entry_form_at e) (length e)

  pub entry_short : length e < 4 → false ≡ Fits
  entry_short h =
      let past : length e < entry_form_at e = omega (arith, area_there e, form_there e) in
      rw (lt-leb (entry_form_at e) (length e) past, and-false (leb (entry_names e) 128 && leb (entry_area e) 4096))

  pub many_names : (n : ℕ) → n ≡ entry_names e → leb n 128 ≡ false → false ≡ Fits
  many_names n p h = rw (← p, h)

  module _ (n : ℕ) (p : n ≡ entry_names e) (few : leb n 128 ≡ true) (a : ℕ) (q : a ≡ entry_area e) where
    pub long_area : leb a 4096 ≡ false → false ≡ Fits
    long_area h = rw (← p, few, ← q, h)

    pub entry_room : leb a 4096 ≡ true → (f : ℕ) → f ≡ entry_form_at e → leb f (length e) ≡ Fits
    entry_room small f r = rw (← p, few, ← q, small, ← r)

  fits_entry : Fits ≡ true → EntryFits e
  fits_entry h =
      let (counts, room) = and-true (leb (entry_names e) 128 && leb (entry_area e) 4096) (leb (entry_form_at e) (length e)) h in
      let (few, small) = and-true (leb (entry_names e) 128) (leb (entry_area e) 4096) counts in
      let long = leb-true (entry_form_at e) (length e) room in
      let head : 4 ≤ length e = omega (arith, area_there e, form_there e) in
      record { counts = record { head = head; names = leb-true _ 128 few; area = leb-true _ 4096 small }; fits = long }

-- ---- a name
module _ (area : List ℕ) (x : names.Name) where
  pub other_type : 1 < x.kind → false ≡ command_name_good area (name_of x)
  unfolding command_name_good
  other_type h = rw (lt-leb x.kind 1 h, and-false (name_good area (name_of x)))

  pub good_type : (g : Bool) → x.kind ≤ 1 → g ≡ name_good area (name_of x) → g ≡ command_name_good area (name_of x)
  unfolding command_name_good
  good_type g h e = rw (le-leb x.kind 1 h, and_one (name_good area (name_of x))) e

-- ---- the names of an entry
pub names_answered :
    (e : List ℕ) (n : ℕ)
    → n ≡ entry_names e
    → (area : List ℕ)
    → area ≡ (read_command e).area
    → (r : Bool)
    → MatchBool r ((k : ℕ) → k < n → Found (read_command e).names (λ x. true ≡ command_name_good area x) k)
    ((k : ℕ) × (k < n) × Found (read_command e).names (λ x. false ≡ command_name_good area x) k)
    → r ≡ all (command_name_good (read_command e).area) (read_command e).names
names_answered e n count area same r each =
    all_answered (command_name_good area) (read_command e).names n (omega (arith, names_length e)) r each ∙ rw same

-- ---- a long name
abbrev pub not_long : Name → Bool
not_long x = not (eqb x.type 1)

none_long : (area : List ℕ) (l : List Name) → null (concat_map (λ x. if eqb x.type 1 then name_bytes area x ∷ [] else []) l) ≡ all not_long l
unfolding null concat_map all
none_long area [] = refl
none_long area (x ∷ l) = go (eqb x.type 1) refl (none_long area l)
  where
    go :
        (b : Bool)
        → eqb x.type 1 ≡ b
        → null (concat_map (λ x. if eqb x.type 1 then name_bytes area x ∷ [] else []) l) ≡ all not_long l
        → null (concat_map (λ x. if eqb x.type 1 then name_bytes area x ∷ [] else []) (x ∷ l)) ≡ all not_long (x ∷ l)
    go true e rest = rw e
    go false e rest = rw e rest

module _ (e : List ℕ) where
  no_long : null (of_type 1 (read_command e)) ≡ all not_long (read_command e).names
  unfolding of_type
  no_long = none_long (read_command e).area (read_command e).names

  pub any_long :
      (n : ℕ)
      → n ≡ entry_names e
      → (r : Bool)
      → MatchBool r ((k : ℕ) × (k < n) × Found (read_command e).names (λ x. x.type ≡ 1) k) ((k : ℕ) → k < n → Found (read_command e).names (λ x. x.type ≡ 1 → ⊥) k)
      → r ≡ not (null (of_type 1 (read_command e)))
  any_long n p true (k, below, s) =
      rw (no_long, one_fails not_long (read_command e).names k s.0 s.1 (ap not (eq-eqb s.0.type 1 s.2)))
  any_long n p false none =
      rw (
        no_long,
        all_passed not_long (read_command e).names n (λ j below y f.
            let s = none j below in
            let same : s.0 ≡ y = some-injective s.0 y (sym s.1 ∙ f) in
            subst (λ (z : Name). not_long z ≡ true) same (ap not (ne_eqb s.0.type 1 s.2)))
            (omega (arith, names_length e)),
      )

  -- ---- an entry's tests together
  module _ (f : Bool) (fits : f ≡ Fits e) where
    pub entry_unfit : f ≡ false → false ≡ entry_good e
    unfolding entry_good
    entry_unfit h = rw (← fits, h)

    module _ (fit : f ≡ true) where
      pub entry_fits : EntryFits e
      entry_fits = fits_entry e (sym fits ∙ fit)

      module _ (g : Bool) (good : g ≡ all (command_name_good (read_command e).area) (read_command e).names) where
        pub entry_misnamed : g ≡ false → false ≡ entry_good e
        unfolding entry_good
        entry_misnamed h = rw (← fits, fit, ← good, h)

        pub entry_named : g ≡ true → (h : Bool) → h ≡ not (null (of_type 1 (read_command e))) → h ≡ entry_good e
        unfolding entry_good
        entry_named n h i = rw (← fits, fit, ← good, n) i

-- ---- the offsets
module _ (t : List ℕ) where
  pub table_short : length t < 2 → false ≡ offsets_good t
  table_short h = go (offsets_good t) refl
    where
      go : (b : Bool) → offsets_good t ≡ b → false ≡ b
      go false e = refl
      go true e = absurd (omega (arith, (good_offsets t e).long))

  module _ (n : ℕ) (p : n ≡ entry_count t) where
    pub no_entries : n < 1 → false ≡ offsets_good t
    unfolding offsets_good
    no_entries h = rw (← p, lt-leb 1 n h)

    pub many_entries : 32 < n → false ≡ offsets_good t
    unfolding offsets_good
    many_entries h = rw (← p, le-leb 1 n (omega arith), lt-leb n 32 h)

    pub some_entries : 1 ≤ n → n ≤ 32 → (g : Bool) → g ≡ table_good 4 n t → g ≡ offsets_good t
    unfolding offsets_good
    some_entries z h g e = rw (← p, le-leb 1 n z, le-leb n 32 h) e

-- ---- the entries of a table
module _ (t : List ℕ) (n : ℕ) (p : n ≡ entry_count t) where
  pub has_entry : (k : ℕ) → k < n → offsets_good t ≡ true → HasEntry t k
  has_entry k below good = record { good = good; below = omega arith }

  pub entries_answered :
      (r : Bool)
      → MatchBool r ((k : ℕ) → k < n → true ≡ entry_good (entry_of 4 (entry_count t) t k))
      ((k : ℕ) × (k < n) × (false ≡ entry_good (entry_of 4 (entry_count t) t k)))
      → r ≡ all entry_good (table_entries t)
  entries_answered true each =
      all_answered entry_good (table_entries t) n (entries_count t ∙ sym p) true (λ k h. (_, entry_there t k (omega arith), each k h))
  entries_answered false (k, h, f) =
      all_answered entry_good (table_entries t) n (entries_count t ∙ sym p) false (k, h, (_, entry_there t k (omega arith), f))

-- ---- a table's names
module _ (t : List ℕ) (g : Bool) where
  pub offsets_bad : g ≡ offsets_good t → g ≡ false → false ≡ (offsets_good t && all entry_good (table_entries t))
  offsets_bad e h = rw (← e, h)

  pub offsets_true : g ≡ offsets_good t → g ≡ true → offsets_good t ≡ true
  offsets_true e h = rw (← e) h

  pub offsets_right : g ≡ offsets_good t → g ≡ true → (x : Bool) → x ≡ all entry_good (table_entries t)
      → x ≡ (offsets_good t && all entry_good (table_entries t))
  offsets_right e h x f = rw (← e, h) f

  pub table_bad :
      g ≡ (offsets_good t && all entry_good (table_entries t))
      → not g ≡ true
      → TableTested t (record { number = 11; place = 0; entry = 0 })
  unfolding table_told table_in entry_at_fault ◌>>=◌
  table_bad e h = record { told = rw (← e, not-true g h, entry_at_fault); place = omega arith; entry = omega arith }

  pub has_commands : g ≡ (offsets_good t && all entry_good (table_entries t)) → not g ≡ false → HasCommands t
  unfolding table_in
  has_commands e h = record { commands = map read_command (table_entries t); reads = rw (← e, not-false g h) }

-- ---- its forms
form_accepted : (c : Command) → form_good c ≡ true → (a : Accepted) × (check_form c.form ≡ accepted a)
unfolding form_good
form_accepted c h = go (check_form c.form) refl
  where
    go : (o : Checked Accepted) → check_form c.form ≡ o → (a : Accepted) × (check_form c.form ≡ accepted a)
    go (accepted a) e = (a, e)
    go (refused_at n k) e = absurd (false≢true (rw (e, form_good) at h))

forms_accepted : (cs : List Command) → all form_good cs ≡ true → (fs : List Accepted) × (forms_in cs ≡ ok fs)
unfolding all forms_in form_in ◌>>=◌
forms_accepted [] h = ([], refl)
forms_accepted (c ∷ cs) h =
    let (here, later) = and-true (form_good c) (all form_good cs) h in
    let (a, e) = form_accepted c here in
    let (fs, f) = forms_accepted cs later in
    (a ∷ fs, rw (e, form_in, f))

-- the first that is not: its refusal, and its number behind i
forms_refused :
    (i : ℕ) (cs : List Command) (k : ℕ) (c : Command) (n : ℕ) (p : Option ℕ)
    → ((j : ℕ) → j < k → PassesAt form_good cs j)
    → get_elem? cs k ≡ some c
    → check_form c.form ≡ refused_at n p
    → (forms_in cs ≡ refused (refuse n p)) × (first_fault form_good i cs ≡ some (i + k))
unfolding forms_in form_in first_fault form_good ◌>>=◌
forms_refused i [] k c n p before here e = absurd (none-ne-some c here)
forms_refused i (d ∷ cs) zero c n p before here e =
    let same = some-injective d c here in
    (rw (same, e, form_in), rw (same, e, form_good, add-zero i))
forms_refused i (d ∷ cs) (suc k) c n p before here e =
    let (a, f) = form_accepted d (before 0 (omega arith) d refl) in
    let (r, s) = forms_refused (suc i) cs k c n p (λ j h. before (suc j) (omega arith)) here e in
    let next : suc i + k ≡ i + suc k = omega arith in
    (rw (f, form_in, r), rw (f, form_good, s, next))

-- the forms before k are accepted
abbrev pub Accepts : List ℕ → ℕ → Type 0
Accepts t k = (cs : List Command) → table_in t ≡ ok cs → (j : ℕ) → j < k → PassesAt form_good cs j

module _ (t : List ℕ) where
  pub few_entries : HasCommands t → (n : ℕ) → n ≡ entry_count t → (1 ≤ n) × (n ≤ 32) × (2 ≤ length t)
  few_entries h n p =
      let g = good_offsets t (table_offsets t h.commands h.reads) in
      (omega (arith, g.least), omega (arith, g.most), omega (arith, g.long))

  pub forms_pass : HasCommands t → (n k : ℕ) → n ≡ entry_count t → n ≤ k → Accepts t k → TableTested t (record { number = 0; place = 0; entry = 0 })
  unfolding table_told ◌>>=◌
  forms_pass h n k p l before =
      let cs = h.commands in
      let (fs, e) = forms_accepted cs (all_passed form_good cs k (before cs h.reads) (omega (arith, commands_count t cs h.reads))) in
      record { told = rw (h.reads, e); place = omega arith; entry = omega arith }

  module _
      (k : ℕ) (b : List ℕ) (is : (cs : List Command) → table_in t ≡ ok cs → FormOf cs k b) (before : Accepts t k)
    where
      pub form_passes : record { number = 0; place = 0 } ≡ check_code (check_form b) → Accepts t (k + 1)
      unfolding form_good
      form_passes z = λ cs reads.
          let f = is cs reads in
          let (a, e) = check_accepted b _ z refl in
          one_passes form_good cs k (before cs reads) f.command f.here (rw (f.form, e, form_good))

      pub form_fails :
          HasCommands t
          → k < 32
          → (x : RefusedAt)
          → told x ≡ check_code (check_form b)
          → TableTested t (record { number = number_of x.refusal; place = place_told x.place; entry = k + 1 })
      unfolding table_told entry_at_fault ◌>>=◌
      form_fails h few x checked = record { told = go (check_form b) refl; place = check_place b x checked; entry = omega arith }
        where
          go :
              (o : Checked Accepted)
              → check_form b ≡ o
              → table_told (table_forms t) (entry_at_fault t) ≡ some (record { number = number_of x.refusal; place = place_told x.place; entry = k + 1 })
          go (accepted a) e = absurd (numbered x.refusal (ap (λ (r : Refused). r.number) (checked ∙ ap check_code e)))
          go (refused_at n p) e =
              let f = is h.commands h.reads in
              let same = checked ∙ ap check_code e in
              let (y, z) = forms_refused 0 h.commands k f.command n p (before h.commands h.reads) f.here (rw f.form e) in
              rw (h.reads, entry_at_fault, y, z, zero-add k, add-one k)
              (sym (ap (λ (r : Refused). some (record { number = r.number; place = r.place; entry = suc k })) same))

-- ---- the form of an entry
module _ (t : List ℕ) (b : Bool) (tested : b ≡ (offsets_good t && all entry_good (table_entries t))) (k : ℕ) where
  -- 11
  pub part_bad : not b ≡ true → (r : FormPart) → r ≡ record { number = 11; place = 0; offset = 0; length = 0 } → part_told (call_command_form t k) ≡ some r
  unfolding call_command_form table_in part_told ◌>>=◌
  part_bad h r e = rw (← tested, not-true b h, e)

  module _ (h : not b ≡ false) where
    pub part_commands : HasCommands t
    part_commands = has_commands t b tested h

    pub part_offsets : offsets_good t ≡ true
    part_offsets = table_offsets t part_commands.commands part_commands.reads

    -- 28
    pub part_none : (n : ℕ) → n ≡ entry_count t → n ≤ k → (r : FormPart) → r ≡ record { number = 28; place = 0; offset = 0; length = 0 }
        → part_told (call_command_form t k) ≡ some r
    unfolding call_command_form part_told ◌>>=◌
    part_none n c l r e =
        let count = commands_count t part_commands.commands part_commands.reads in
        rw (part_commands.reads, le-ltb k (length part_commands.commands) (omega arith), e)

    module _ (n : ℕ) (c : n ≡ entry_count t) (l : k < n) where
      pub part_entry : HasEntry t k
      part_entry = record { good = part_offsets; below = omega arith }

      pub part_fits : EntryFits (entry_of 4 (entry_count t) t k)
      part_fits = (entry_good_lem t part_commands.commands part_commands.reads k (omega arith)).fits

      -- it lies in the table
      pub record PartInside : Type 0 where
        pub small : area_start 4 n ≤ 134
        pub first : area_start 4 k ≤ length t
        pub sum : area_start 4 n + offset 4 t k ≤ length t
        pub whole : area_start 4 n + offset 4 t k + entry_form_at (entry_of 4 (entry_count t) t k) ≤ length t

      pub part_inside : PartInside
      part_inside =
          let w = wire_entry t k part_entry in
          let p = rw (← c) at (placed w) in
          let most = (good_offsets t part_offsets).most in
          let long = entry_length w in
          let fits = part_fits.fits in
          record {
            small = omega (arith, start_most 4 n (inr refl));
            first = p.first;
            sum = omega (arith, p.rising, p.inside);
            whole = omega (arith, p.rising, p.inside);
          }

      -- and so do the entry and the form, at the numbers that are read
      module _ (e : List ℕ) (f : ℕ) (i : e ≡ entry_of 4 (entry_count t) t k) (g : f ≡ entry_form_at e) where
        pub form_inside : f ≤ length e
        form_inside = let fits = rw (← i) at part_fits.fits in omega arith

        pub sum_inside : (start at : ℕ) → start ≡ area_start 4 n → at ≡ offset 4 t k → start + at + f ≤ length t
        sum_inside start at s o = let whole = rw (← i) at part_inside.whole in omega arith

      pub part_there :
          (start at f : ℕ) (e : List ℕ) (r : FormPart)
          → start ≡ area_start 4 n
          → at ≡ offset 4 t k
          → e ≡ entry_of 4 (entry_count t) t k
          → f ≡ entry_form_at e
          → r ≡ record { number = 0; place = 0; offset = start + at + f; length = length e - f }
          → part_told (call_command_form t k) ≡ some r
      unfolding call_command_form form_part part_told read_command ◌>>=◌
      part_there start at f e r s o i g h =
          let count = commands_count t part_commands.commands part_commands.reads in
          rw (part_commands.reads, lt-ltb k (length part_commands.commands) (omega arith), h, g, i, s, o, c, length-drop)
