-- Of a line that is split by some letters: which arguments are read as options, and why a word that looks like options is one.
use mathlib.Core.Bool.{Bool, true, false, not, false≢true, true≢false}
use mathlib.Core.List.{List, [], ◌∷◌, ◌++◌, flatten}
use mathlib.Core.Logic.{◌⊎◌, inl, inr, ⊎_elim}
use mathlib.Core.Option.{Option, some, none, some-injective}
use mathlib.Core.Path.{◌≡◌, refl, sym, ap, ◌∙◌}
use Prim.Native.Nat.{ℕ, zero, suc, ◌+◌, ◌-◌, ◌≤◌, ◌<◌}
use native.Mathlib.Omega.{arith}
use borrow.Author.Tests.{le-ltb, ltb-true, ltb-false, not-true, not-false}
use lib.Dec.{ltb}
use lib.ListN.{length, take, get_elem?}
use Rattle.utf8.specs.Utf8.{well_formed}
use Rattle.rules.specs.Base.{null, same, ◌>>?◌}
use Rattle.rules.specs.Outcome.{Outcome, ok, refused, fault, ◌>>=◌}
use Rattle.rules.specs.Sheet.{arguments}
use Rattle.rules.specs.Accept.{Letters}
use Rattle.rules.specs.Split.{Item, Short, Long, ArgWord, Word, PosWord, short, long, Parts, split_os_argument, Letter}
use Rattle.rules.specs.Split.{Cluster, single, argument_letter, withdrawn, ambiguous, pick_letter, look_up, disambiguate_short, flag_items}
use Rattle.rules.specs.Split.{argument_items, cluster_items, ambiguous_at, Group, plain, cluster_group, short_group, long_group, parts_group}
use Rattle.rules.specs.Split.{word_group, split_argument, Split, positionals, split_from, items_of}
use Rattle.rules.specs.Run.{Report}
use Rattle.rules.specs.Codes.{place_code}
use Rattle.rules.specs.Why.{is_name, argument_at, is_whole, cluster_letters, first_unknown}
use Rattle.rules.specs.WhyAnswered.{HasUnknown, Withdrawn, behind_adjacent}
use Rattle.rules.specs.Demands.{has_marker}
use Rattle.rules_careful.specs.Careful.{looks_like_options, is_misread, first_misread, misread_letter, refused_word}
use Rattle.rules_careful.specs.Looks.{LooksLike, ReadAsOptions, BadName, Misread}
use Rattle.rules.proofs.Places.{if_elim, both}
use Rattle.rules.proofs.Acceptance.{lookup_inside, no_fault, numbers_all}
use Rattle.rules.proofs.WellMadeLaws.{first_number}
use Rattle.rules.proofs.SplitLaws.{letter_ok, cluster_step, cluster_ok, some≢none, parts_cases, same_true, dashes, argument_grouped, ok_injective, same_self}
use Rattle.rules.proofs.InputFaults.{padded_nil, bind_ok}
use Rattle.rules.proofs.CommandLaws.{lookup_behind}
use Rattle.rules.proofs.WithdrawLaws.{unknown_cluster, no_parts_no_cluster, has_unknown, stopped, word_withdrawn}
use Rattle.rules.proofs.Withdraws.{cut, group_there, word_there, word_whole, withdrawals}
use Rattle.rules_careful.proofs.LooksLaws.{misread_at, misread_facts, bad_name_lem}

-- ---- an argument that is not `--`
-- begins with the name of an option, or is one Word
data Begins (os : List ℕ) : List Item → Type 0 where
  option : (y : Item) (is : List Item) → is_name y ≡ true → Begins os (y ∷ is)
  word : Begins os (Word os ∷ [])

begins_some : (os : List ℕ) (is : List Item) → Begins os is → 1 ≤ length is
begins_some os is (option y more n) = omega arith
begins_some os is word = omega arith

module _ (l : Letters) (os : List ℕ) where
  abbrev ClusterBegins : Cluster → Type 0
  ClusterBegins c = ambiguous_at c ≡ none → Begins os (cluster_items os c)

  pick_begins :
      (f a : Bool) (p q : Cluster) (place : ℕ) (cs : List ℕ)
      → ClusterBegins p
      → ClusterBegins q
      → ClusterBegins (pick_letter f a p q (withdrawn place) (ambiguous cs))
  unfolding pick_letter cluster_items ambiguous_at
  pick_begins true false p q place cs h g = h
  pick_begins false true p q place cs h g = g
  pick_begins false false p q place cs h g = λ _. word
  pick_begins true true p q place cs h g = λ e. absurd (some≢none e)

  -- behind the letter of a flag
  look_more : (c : ℕ) (before : List ℕ) (ls : List Letter) → ClusterBegins (look_up l (c ∷ before) ls)
  unfolding look_up cluster_items flag_items is_name
  look_more c before [] = λ _. option (Short c false os) _ refl
  look_more c before (x ∷ ls) =
      pick_begins _ _ _ (argument_letter (c ∷ before) x.character x.rest) x.place _
      (look_more c (before ++ (x.character ∷ [])) ls) (λ _. option (Short c false os) _ refl)

  argument_begins : (c : ℕ) (rest : List ℕ) → Begins os (argument_items os c rest)
  unfolding argument_items null is_name
  argument_begins c [] = option (Short c false os) _ refl
  argument_begins c (b ∷ rest) = option (Short c true os) _ refl

  cluster_begins : (x : Letter) (ls : List Letter) → ClusterBegins (disambiguate_short l (x ∷ ls))
  unfolding disambiguate_short look_up cluster_items flag_items is_name
  cluster_begins x ls =
      if_elim ClusterBegins (null x.rest) (single x.character) (look_up l [] (x ∷ ls))
      (λ _ _. option (Short x.character false os) [] refl)
      (λ _. pick_begins _ _ _ (argument_letter [] x.character x.rest) x.place []
      (look_more x.character [] ls) (λ _. argument_begins x.character x.rest))

  abbrev GroupBegins : Outcome Group → Type 0
  GroupBegins (ok g) = g.ambiguous ≡ none → Begins os g.items
  GroupBegins (refused e) = Unit {0}
  GroupBegins (fault e) = Unit {0}

  long_begins : (n : List ℕ) (body : Option (List ℕ)) → GroupBegins (ok (long_group os n body))
  unfolding long_group plain is_name
  long_begins n none e = option (Long n false os) [] refl
  long_begins n (some v) e = option (Long n true os) _ refl

  short_begins : (b : ℕ) (s : List ℕ) (body : Option (List ℕ)) → well_formed (b ∷ s) ≡ true → GroupBegins (short_group l os (b ∷ s) body)
  unfolding short_group cluster_group well_formed plain is_name ◌>>=◌
  short_begins b s none w =
      let x = letter_ok b s w in
      let more = cluster_ok (x.0.size - 1) 1 s x.3 in
      rw (cluster_step 0 b x.0 s more.0 x.1 x.2 more.1) (cluster_begins _ more.0)
  short_begins b s (some v) w = let x = letter_ok b s w in rw (x.1, short_group) (λ _. option (Short x.0.value true os) _ refl)

  group_begins : same os dashes ≡ false → GroupBegins (split_argument l os)
  unfolding split_argument parts_group word_group plain ◌>>=◌
  group_begins other = parts_cases Given (λ e. rw (e, split_argument, other) (λ _. word)) longs shorts os refl
    where
      Given : Outcome (Option Parts) → Type 0
      Given x = split_os_argument os ≡ x → GroupBegins (split_argument l os)

      longs : (n : List ℕ) (body : Option (List ℕ)) → Given (ok (some (record { type = long; name = n; body = body })))
      longs n body e = rw (e, split_argument) (long_begins n body)

      shorts :
          (b : ℕ) (s : List ℕ) (body : Option (List ℕ))
          → well_formed (b ∷ s) ≡ true
          → Given (ok (some (record { type = short; name = b ∷ s; body = body })))
      shorts b s body w e = rw (e, split_argument) (short_begins b s body w)

-- ---- places and arguments
-- a place of the first argument, or behind its items
abbrev Behind : (k i : ℕ) → List (List Item) → Type 0
Behind k i gs = (is : List Item) → get_elem? gs 0 ≡ some is → (k ≡ 0) ⊎ (length is ≤ i)

-- the place of an argument that is one Word
word_place :
    (args : List (List ℕ)) (gs : List (List Item)) (k : ℕ) (os : List ℕ)
    → get_elem? args k ≡ some os
    → get_elem? gs k ≡ some (Word os ∷ [])
    → (i : ℕ) × (get_elem? (flatten gs) i ≡ some (Word os)) × (argument_at args gs i ≡ some os) × Behind k i gs
unfolding argument_at flatten
word_place [] gs k os a g = absurd (some≢none (sym a))
word_place (o ∷ rest) [] k os a g = absurd (some≢none (sym g))
word_place (o ∷ rest) (is ∷ gs) zero os a g =
    let items : is ≡ Word os ∷ [] = some-injective is _ g in
    (0, rw items, rw items a, λ _ _. inl refl)
word_place (o ∷ rest) (is ∷ gs) (suc k) os a g =
    let (i, here, at, _) = word_place rest gs k os a g in
    let back : length is + i - length is ≡ i = omega arith in (
      length is + i,
      lookup_behind is (flatten gs) i ∙ here,
      rw (le-ltb (length is + i) (length is) (omega arith), back) at,
      λ js first. inr (omega (arith, ap length (some-injective is js first))),
    )

-- place 0 is the first argument's
first_place :
    (l : Letters) (args : List (List ℕ)) (x : Split) (k i : ℕ) (os : List ℕ)
    → split_from l 0 args ≡ ok x
    → x.ambiguous ≡ none
    → LooksLike args k os
    → Behind k i x.groups
    → i ≡ 0
    → k ≡ 0
unfolding has_marker
first_place l [] x k i os e clear h front z = absurd (some≢none (sym h.there))
first_place l (o ∷ rest) x zero i os e clear h front z = refl
first_place l (o ∷ rest) x (suc k) i os e clear h front z =
    if_elim (λ (_ : Bool). suc k ≡ 0) (same o dashes) true false
    (λ m. absurd (true≢false (rw m at h.before)))
    (λ m.
    let (g, split, unambiguous, there) = group_there l 0 (o ∷ rest) x 0 o e clear refl refl in
    let many = begins_some o g.items ((rw split at (group_begins l o m)) unambiguous) in
    ⊎_elim (λ (n : suc k ≡ 0). n) (λ (n : length g.items ≤ i). absurd (omega arith)) (front g.items there))

-- behind the first `--` there is no Word
no_word : (rest : List (List ℕ)) (i : ℕ) (t : List ℕ) → get_elem? (flatten (positionals rest)) i ≡ some (Word t) → ⊥
unfolding positionals flatten
no_word [] i t e = some≢none (sym e)
no_word (os ∷ rest) zero t e = let z : ◌≡◌ {A = ℕ} 0 1 = cc in omega arith
no_word (os ∷ rest) (suc i) t e = no_word rest i t e

-- a place is of the first group, or of the others
first_or_other :
    (o : List ℕ) (rest : List (List ℕ)) (is : List Item) (gs : List (List Item)) (i : ℕ) (os : List ℕ) (y : Item)
    → argument_at (o ∷ rest) (is ∷ gs) i ≡ some os
    → get_elem? (is ++ flatten gs) i ≡ some y
    → (o ≡ os) ⊎ ((argument_at rest gs (i - length is) ≡ some os) × (get_elem? (flatten gs) (i - length is) ≡ some y))
unfolding argument_at
first_or_other o rest is gs i os y at here = go (ltb i (length is)) refl
  where
    go :
        (t : Bool)
        → ltb i (length is) ≡ t
        → (o ≡ os) ⊎ ((argument_at rest gs (i - length is) ≡ some os) × (get_elem? (flatten gs) (i - length is) ≡ some y))
    go true h = inl (some-injective o os (rw h at at))
    go false h =
        let back : length is + (i - length is) ≡ i = omega (arith, ltb-false i (length is) h) in
        inr (rw h at at, sym (lookup_behind is (flatten gs) (i - length is)) ∙ ap (get_elem? (is ++ flatten gs)) back ∙ here)

-- so the argument of a Word stands before it
word_before :
    (l : Letters) (k : ℕ) (args : List (List ℕ)) (x : Split) (i : ℕ) (t os : List ℕ)
    → split_from l k args ≡ ok x
    → x.ambiguous ≡ none
    → get_elem? (flatten x.groups) i ≡ some (Word t)
    → argument_at args x.groups i ≡ some os
    → (j : ℕ) × (get_elem? args j ≡ some os) × (has_marker (take j args) ≡ false)
unfolding argument_at flatten has_marker
word_before l k [] x i t os e clear here at = absurd (some≢none (sym at))
word_before l k (o ∷ rest) x i t os e clear here at =
    let c = cut l k o rest x clear e in
    let is = c.group.items in
    let j = i - length is in
    ⊎_elim
    (λ (z : o ≡ os). (0, ap some z, refl))
    (λ (z : (argument_at rest c.others j ≡ some os) × (get_elem? (flatten c.others) j ≡ some (Word t))).
    if_elim (λ (_ : Bool). Before (o ∷ rest)) (same o dashes) true false
    (λ h. absurd (no_word rest j t (rw (c.after h) at z.1)))
    (λ h.
    let (y, splits, clear, others) = c.before h in
    let (n, there, free) = word_before l (k + length is) rest y j t os splits clear (rw others at z.1) (rw others at z.0) in
    (suc n, there, rw h free)))
    (first_or_other o rest is c.others i os (Word t) (rw c.groups at at) (rw c.groups at here))
  where
    Before : List (List ℕ) → Type 0
    Before args = (j : ℕ) × (get_elem? args j ≡ some os) × (has_marker (take j args) ≡ false)

-- ---- why a word that looks like options is one
record WordWhy (l : Letters) (os : List ℕ) (letter : ℕ) : Type 0 where
  unknown : (c : ℕ) → letter ≡ suc c → HasUnknown l os c × Withdrawn l os
  not_utf8 : letter ≡ 0 → BadName os

word_why :
    (l : Letters) (os : List ℕ)
    → split_argument l os ≡ ok (plain (Word os ∷ []))
    → looks_like_options os ≡ true
    → same os dashes ≡ false
    → WordWhy l os (place_code (cluster_letters os >>? first_unknown l))
unfolding split_argument ◌>>?◌
word_why l os w looks other = let (p, h, _) = bind_ok (split_os_argument os) _ _ w in go p h
  where
    go : (p : Option Parts) → split_os_argument os ≡ ok p → WordWhy l os (place_code (cluster_letters os >>? first_unknown l))
    go none h =
        rw (no_parts_no_cluster os h) (record { unknown = λ c z. absurd (omega arith); not_utf8 = λ _. bad_name_lem os looks other h })
    go (some p) h =
        let away = word_withdrawn l os p w h in
        let flags = (stopped l os away).flags in
        let has = has_unknown l os flags in
        rw (unknown_cluster l os flags.character has) (record {
          unknown = λ c z. let same : flags.character ≡ c = omega arith in (rw same at has, away);
          not_utf8 = λ z. absurd (omega arith);
        })

-- ---- a place that is misread
whole_word : (y : Item) (os : List ℕ) → is_whole y os ≡ true → y ≡ Word os
unfolding is_whole
whole_word (Short c a t) os e = absurd (false≢true e)
whole_word (Long n a t) os e = absurd (false≢true e)
whole_word (ArgWord t) os e = absurd (false≢true e)
whole_word (Word t) os e = ap Word (same_true t os e)
whole_word (PosWord t) os e = absurd (false≢true e)

-- all of its argument, which was split to this one Word
pub record WholeWord (l : Letters) (args : List (List ℕ)) (x : Split) (i : ℕ) : Type 0 where
  pub text : List ℕ
  pub looks : looks_like_options text ≡ true
  pub item : get_elem? (items_of x) i ≡ some (Word text)
  pub argument : argument_at args x.groups i ≡ some text
  pub word : split_argument l text ≡ ok (plain (Word text ∷ []))

record MisreadWord (l : Letters) (args : List (List ℕ)) (x : Split) (i : ℕ) : Type 0 where
  argument : ℕ
  text : List ℕ
  looks : LooksLike args argument text
  group : get_elem? x.groups argument ≡ some (Word text ∷ [])
  item : get_elem? (items_of x) i ≡ some (Word text)
  why : WordWhy l text (misread_letter l args x.groups i)

-- a word before the place from which is looked; if it is at place 0, it is the first argument
pub record WordBefore (x : Split) (from k : ℕ) (os : List ℕ) : Type 0 where
  pub place : ℕ
  pub before : place < from
  pub item : get_elem? (items_of x) place ≡ some (Word os)
  pub first : place ≡ 0 → k ≡ 0

module _ (l : Letters) (args : List (List ℕ)) (x : Split) (e : split_from l 0 args ≡ ok x) (clear : x.ambiguous ≡ none) where
  pub misread_whole : (i : ℕ) → is_misread args x.groups i ≡ true → WholeWord l args x i
  unfolding items_of
  misread_whole i m =
      let f = misread_facts args x.groups i m in
      let os = f.text in
      let item = f.here ∙ ap some (whole_word f.item os f.whole) in
      let part = withdrawals.part l args x i os os e clear item f.argument in
      let alone = not-true (behind_adjacent (items_of x) i) (sym part ∙ same_self os) in
      let word = (word_whole l args x i os os e clear item f.argument alone).1 in
      record { text = os; looks = f.looks; item = item; argument = f.argument; word = word }

  misread_word : (i : ℕ) → is_misread args x.groups i ≡ true → MisreadWord l args x i
  unfolding items_of misread_letter plain ◌>>?◌
  misread_word i m =
      let f = misread_whole i m in
      let os = f.text in
      let item = f.item in
      let word = f.word in
      let (k, there, before) = word_before l 0 args x i os os e clear item f.argument in
      let g = argument_grouped l os in
      let other = sym g.marker ∙ ap (λ (h : Group). h.marker) (ok_injective (sym g.same ∙ word)) in
      record {
        argument = k;
        text = os;
        looks = record { there = there; before = before; other = other; looks = f.looks };
        group = word_there l 0 args x k os e clear there before word;
        item = item;
        why = rw f.argument (word_why l os word f.looks other);
      }

  -- none is misread from a place on: a word that looks like options stands before that
  pub read_as :
      (from : ℕ)
      → first_misread from args x.groups ≡ none
      → (k : ℕ) (os : List ℕ)
      → LooksLike args k os
      → ReadAsOptions x k ⊎ WordBefore x from k os
  unfolding first_misread is_whole items_of
  read_as from free k os h =
      let (g, split, unambiguous, there) = group_there l 0 args x k os e clear h.there h.before in
      go g.items there ((rw split at (group_begins l os h.other)) unambiguous)
    where
      all_read : (i : ℕ) → from ≤ i → i < length (flatten x.groups) → not (is_misread args x.groups i) ≡ true
      all_read i above below =
          numbers_all (λ (i : ℕ). not (is_misread args x.groups i) ≡ true) (length (flatten x.groups) - from) from
          (no_fault (λ i. not (is_misread args x.groups i)) from _ free) i above (omega arith)

      before : (i : ℕ) → get_elem? (flatten x.groups) i ≡ some (Word os) → argument_at args x.groups i ≡ some os → Behind k i x.groups
          → (t : Bool) → ltb i from ≡ t → ReadAsOptions x k ⊎ WordBefore x from k os
      before i here at front true t =
          inr (record { place = i; before = ltb-true i from t; item = here; first = first_place l args x k i os e clear h front })
      before i here at front false t =
          let read = not-true _ (all_read i (ltb-false i from t) (lookup_inside (flatten x.groups) i (Word os) here)) in
          absurd (true≢false (sym (both (same os os) _ (same_self os) h.looks) ∙ sym (misread_at args x.groups i (Word os) os here at) ∙ read))

      go : (is : List Item) → get_elem? x.groups k ≡ some is → Begins os is → ReadAsOptions x k ⊎ WordBefore x from k os
      go is there (option y more n) = inl (record { first = y; more = more; group = there; option = n })
      go is there word =
          let (i, here, at, front) = word_place args x.groups k os h.there there in
          before i here at front (ltb i from) refl

-- what is refused with 50, and what is left
pub misread_report :
    (l : Letters) (s : List ℕ) (x : Split)
    → split_from l 0 (arguments s) ≡ ok x
    → x.ambiguous ≡ none
    → (from na nl : ℕ) (r : Report)
    → r.number ≡ 0
    → (i : ℕ)
    → first_misread from (arguments s) x.groups ≡ some i
    → Misread l from s na nl r (refused_word na nl r i) (misread_letter l (arguments s) x.groups i)
unfolding refused_word first_misread
misread_report l s x e clear from na nl r fine i h =
    let (above, _, here, lower) = first_number _ (length (flatten x.groups) - from) from i h in
    let w = misread_word l (arguments s) x e clear i (not-false _ here) in
    record {
      accepted = fine;
      given = x;
      splits = e;
      argument = w.argument;
      text = w.text;
      looks = w.looks;
      group = w.group;
      place = i;
      told = refl;
      item = w.item;
      behind = above;
      lowest = λ j from less. not-true _ (lower j from less);
      unknown = w.why.unknown;
      not_utf8 = w.why.not_utf8;
      tries = refl;
      words = refl;
      state = refl;
      items = refl;
      answers = padded_nil na;
      list = padded_nil nl;
    }
