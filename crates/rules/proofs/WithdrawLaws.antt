-- What splitting withdraws: looking letters up, the sixth reason, and the arguments that are one Word.
use Rattle.std.specs.Prelude.{if◌then◌else◌}
use mathlib.Core.Bool.{Bool, true, false, ◌||◌, or-true}
use mathlib.Core.List.{List, [], ◌∷◌, ◌++◌}
use mathlib.Core.Logic.{inl, ⊎_elim}
use mathlib.Core.Option.{Option, some, none}
use mathlib.Core.Path.{◌≡◌, refl, sym, ap, ◌∙◌}
use Prim.Native.Nat.{ℕ, ◌≤◌}
use native.Mathlib.Omega.{arith}
use lib.Dec.{leb}
use lib.ListN.{length}
use borrow.Author.Tests.{le-leb}
use Rattle.utf8.specs.Utf8.{decode, decode_at, well_formed}
use Rattle.std.specs.Prelude.{Option as CodeOption, Some, None}
use Rattle.utf8.specs.declared.Char.{Char}
use Rattle.rules.specs.Base.{null, contains, ◌>>?◌}
use Rattle.rules.specs.Outcome.{Outcome, ok, refused, fault, ◌>>=◌}
use Rattle.rules.specs.Accept.{Letters}
use Rattle.rules.specs.Split.{Item, Word, ArgType, short, long, Parts, split_os_argument, Letter, cluster_from}
use Rattle.rules.specs.Split.{Cluster, single, all_flags, argument_letter, withdrawn, ambiguous, pick_letter, look_up, disambiguate_short}
use Rattle.rules.specs.Split.{flag_items, argument_items, cluster_items, ambiguous_at, Group, plain, cluster_group, short_group, long_group}
use Rattle.rules.specs.Split.{parts_group, split_argument}
use Rattle.rules.specs.Demands.{All}
use Rattle.rules.specs.Clusters.{outcome_of, FlagsOnly, Unknown}
use Rattle.rules.specs.Why.{dashed_name, cluster_letters, first_unknown}
use Rattle.rules.specs.WhyAnswered.{ClusterShape, UnknownBehind, KnownLetter, HasUnknown, Withdrawn, FlagsThenUnknown}
use Rattle.rules.proofs.SplitLaws.{cluster_ok, some≢none, ok_injective}
use Rattle.rules.proofs.Acceptance.{All-split, All-map}
use Rattle.rules.proofs.ClusterLaws.{first_rest, known_passed, group_known}
use Rattle.rules.proofs.ArgumentNames.{LetterOf, letters_of_lem, alone, NameShape, short_parts, shape_parts, shape_name, name_shape, parts_shape}

-- ---- looking letters up
abbrev pub FlagLetter : Letters → Letter → Type 0
FlagLetter l x = FlagsOnly l x.character

-- the first unknown letter behind flags' letters, by its place
record UnknownAt (l : Letters) (ls : List Letter) (place : ℕ) : Type 0 where
  character : ℕ
  behind : UnknownBehind l (FlagLetter l) ls character
  here : behind.unknown.place ≡ place

module _ (l : Letters) (x : Letter) (ls : List Letter) (place : ℕ) where
  unknown_here : Unknown l x.character → x.place ≡ place → UnknownAt l (x ∷ ls) place
  unknown_here nobody e = record {
    character = x.character;
    behind = record { known = []; unknown = x; rest = ls; these = refl; before = tt; nobody = nobody; letter = refl };
    here = e;
  }

  unknown_later : FlagLetter l x → UnknownAt l ls place → UnknownAt l (x ∷ ls) place
  unknown_later flag u =
      let b = u.behind in
      record {
        character = u.character;
        behind = record {
          known = x ∷ b.known;
          unknown = b.unknown;
          rest = b.rest;
          these = ap (λ (m : List Letter). x ∷ m) b.these;
          before = (flag, b.before);
          nobody = b.nobody;
          letter = b.letter;
        };
        here = u.here;
      }

looked_up : (l : Letters) (before : List ℕ) (ls : List Letter) (place : ℕ) → look_up l before ls ≡ withdrawn place → UnknownAt l ls place
unfolding look_up pick_letter
looked_up l before [] place e = absurd (let z : ◌≡◌ {A = ℕ} 0 1 = cc in omega arith)
looked_up l before (x ∷ ls) place e =
    let c = x.character in
    go (contains l.flags c) refl (contains l.arguments c) refl e (looked_up l (before ++ (c ∷ [])) ls place)
  where
    go :
        (f : Bool) → contains l.flags x.character ≡ f
        → (a : Bool) → contains l.arguments x.character ≡ a
        → pick_letter f a
        (look_up l (before ++ (x.character ∷ [])) ls)
        (argument_letter before x.character x.rest)
        (withdrawn x.place)
        (ambiguous before)
        ≡ withdrawn place
        → (look_up l (before ++ (x.character ∷ [])) ls ≡ withdrawn place → UnknownAt l ls place)
        → UnknownAt l (x ∷ ls) place
    go true p true q e later = absurd (let z : ◌≡◌ {A = ℕ} 0 1 = cc in omega arith)
    go true p false q e later = unknown_later l x ls place (record { flag = p; no_argument = q }) (later e)
    go false p true q e later = absurd (let z : ◌≡◌ {A = ℕ} 0 1 = cc in omega arith)
    go false p false q e later = unknown_here l x ls place (record { no_flag = p; no_argument = q }) (cc)

-- two letters or more are looked up
module _ (l : Letters) (b : ℕ) (s : List ℕ) where
  pub several : (ls : List Letter) → cluster_from 0 0 (b ∷ s) ≡ ok ls → 2 ≤ length ls → disambiguate_short l ls ≡ look_up l [] ls
  unfolding disambiguate_short
  several [] e h = absurd (omega arith)
  several (x ∷ []) e h = absurd (omega arith)
  several (x ∷ y ∷ ls) e h = rw (first_rest b 0 s x y ls e)

  -- and one is never withdrawn
  withdrawn_two :
      (ls : List Letter) (place : ℕ)
      → well_formed (b ∷ s) ≡ true
      → cluster_from 0 0 (b ∷ s) ≡ ok ls
      → disambiguate_short l ls ≡ withdrawn place
      → 2 ≤ length ls
  unfolding disambiguate_short
  withdrawn_two [] place w e h = absurd (let z : ◌≡◌ {A = ℕ} 0 1 = cc in omega arith)
  withdrawn_two (x ∷ []) place w e h =
      absurd (let one = rw (alone b s x w e) at h in let z : ◌≡◌ {A = ℕ} 0 1 = cc in omega arith)
  withdrawn_two (x ∷ y ∷ ls) place w e h = omega arith

-- ---- the sixth reason
-- the letters, if they are two or more
abbrev pub at_least_two : Outcome (List Letter) → Option (List Letter)
at_least_two o = elim o [ ok ls ↦ if leb 2 (length ls) then some ls else none | refused e ↦ none | fault e ↦ none ]

pub cluster_name : (os : List ℕ) (ls : List Letter) (h : ClusterShape os ls) → NameShape os (h.first ∷ h.more)
cluster_name os ls h = record {
  first = h.first;
  more = h.more;
  bytes = h.bytes;
  no_dash = h.no_dash;
  utf8 = h.utf8;
  no_equals = h.no_equals;
  all = refl;
}

pub shape_cluster : (os : List ℕ) (ls : List Letter) → ClusterShape os ls → cluster_letters os ≡ some ls
unfolding cluster_letters ◌>>?◌
shape_cluster os ls h =
    rw (shape_name os (h.first ∷ h.more) (cluster_name os ls h)) (ap at_least_two h.these ∙ rw (le-leb 2 (length ls) h.two))

pub no_parts_no_cluster : (os : List ℕ) → split_os_argument os ≡ ok none → cluster_letters os ≡ none
unfolding cluster_letters ◌>>?◌
no_parts_no_cluster os e = go (dashed_name os) refl
  where
    go : (n : Option (List ℕ)) → dashed_name os ≡ n → cluster_letters os ≡ none
    go none h = rw (h, cluster_letters)
    go (some name) h = absurd (some≢none (ok_injective (sym (shape_parts os name (name_shape os name h)) ∙ e)))

known_letter : (l : Letters) (x : Letter) → KnownLetter l x → contains l.flags x.character || contains l.arguments x.character ≡ true
known_letter l x h =
    ⊎_elim
    (λ (p : contains l.flags x.character ≡ true). rw p)
    (λ p. rw p (or-true (contains l.flags x.character)))
    h

first_unknown_lem :
    (l : Letters) (known : List Letter) (u : Letter) (rest : List Letter)
    → All (KnownLetter l) known
    → Unknown l u.character
    → first_unknown l (known ++ (u ∷ rest)) ≡ some u.character
unfolding first_unknown
first_unknown_lem l [] u rest h nobody = rw (nobody.no_flag, nobody.no_argument)
first_unknown_lem l (x ∷ known) u rest h nobody = rw (known_letter l x h.0) (first_unknown_lem l known u rest h.1 nobody)

pub unknown_cluster : (l : Letters) (os : List ℕ) (c : ℕ) → HasUnknown l os c → (cluster_letters os >>? first_unknown l) ≡ some c
unfolding ◌>>?◌
unknown_cluster l os c h =
    let u = h.unknown in
    rw (shape_cluster os h.letters h.shape, u.these)
    (first_unknown_lem l u.known u.unknown u.rest u.before u.nobody ∙ ap some u.letter)

-- a flag's letter is known
pub has_unknown : (l : Letters) (os : List ℕ) (h : FlagsThenUnknown l os) → HasUnknown l os h.character
has_unknown l os h =
    let u = h.unknown in
    record {
      letters = h.letters;
      shape = h.shape;
      unknown = record {
        known = u.known;
        unknown = u.unknown;
        rest = u.rest;
        these = u.these;
        before = All-map (FlagLetter l) (KnownLetter l) (λ x f. inl f.flag) u.known u.before;
        nobody = u.nobody;
        letter = u.letter;
      };
    }

-- ---- what is withdrawn
-- flags' letters and an unknown one, whose character stands where the cluster was withdrawn
pub record Stopped (l : Letters) (os : List ℕ) (w : Withdrawn l os) : Type 0 where
  pub flags : FlagsThenUnknown l os
  pub size : ℕ
  pub decoded : decode_at w.name w.place ≡ Some (record { value = flags.character; size = size })

pub stopped : (l : Letters) (os : List ℕ) (w : Withdrawn l os) → Stopped l os w
unfolding outcome_of well_formed ◌>>=◌
stopped l os w =
    let name = w.name in
    let n = parts_shape os name w.parts in
    let good : well_formed name ≡ true = ap well_formed n.all ∙ n.utf8 in
    let x = cluster_ok 0 0 name good in
    let ls = x.0 in
    let these = ap (cluster_from 0 0) (sym n.all) ∙ x.1 in
    let ended : disambiguate_short l ls ≡ withdrawn w.place = ok_injective (rw x.1 at w.outcome) in
    let two = withdrawn_two l n.first n.more ls w.place n.utf8 these ended in
    let u = looked_up l [] ls w.place (sym (several l n.first n.more ls these two) ∙ ended) in
    let b = u.behind in
    let all = rw b.these at (letters_of_lem name ls good x.1) in
    let letter = (All-split (LetterOf name) b.known (b.unknown ∷ b.rest) all).1.0 in
    record {
      flags = record {
        letters = ls;
        shape = record {
          first = n.first;
          more = n.more;
          bytes = n.bytes;
          no_dash = n.no_dash;
          utf8 = n.utf8;
          no_equals = n.no_equals;
          these = these;
          two = two;
        };
        character = u.character;
        unknown = b;
      };
      size = letter.size;
      decoded = ap (decode_at name) (sym u.here) ∙ letter.decoded ∙ ap (λ (c : ℕ). let d : Char = record { value = c; size = letter.size } in Some d) b.letter;
    }

pub withdrawn_letter :
    (l : Letters) (os : List ℕ) (w : Withdrawn l os)
    → (c n : ℕ) × (decode_at w.name w.place ≡ Some (record { value = c; size = n })) × ((cluster_letters os >>? first_unknown l) ≡ some c)
withdrawn_letter l os w =
    let s = stopped l os w in
    let c = s.flags.character in
    (c, s.size, s.decoded, unknown_cluster l os c (has_unknown l os s.flags))

pub flags_withdrawn : (l : Letters) (os : List ℕ) → FlagsThenUnknown l os → Withdrawn l os
unfolding outcome_of ◌>>=◌
flags_withdrawn l os h =
    let s = h.shape in
    let u = h.unknown in
    let stop = known_passed l [] u.known u.unknown u.rest u.before u.nobody in
    let looks = several l s.first s.more h.letters s.these s.two in
    record {
      name = s.first ∷ s.more;
      place = u.unknown.place;
      parts = shape_parts os (s.first ∷ s.more) (cluster_name os h.letters s);
      outcome = rw s.these (ap ok (looks ∙ ap (look_up l []) u.these ∙ stop));
    }

-- ---- an argument that is one Word
pub plain_items : (g : Group) (is : List Item) → ok g ≡ ok (plain is) → g.items ≡ is
unfolding plain
plain_items g is e = ap (λ (x : Group). x.items) (ok_injective e)

flags_no_word : (os cs : List ℕ) (c : ℕ) (rest t : List ℕ) → flag_items os cs ++ argument_items os c rest ≡ Word t ∷ [] → ⊥
unfolding flag_items argument_items null
flags_no_word os [] c [] t e = let z : ◌≡◌ {A = ℕ} 0 1 = cc in omega arith
flags_no_word os [] c (b ∷ rest) t e = let z : ◌≡◌ {A = ℕ} 0 1 = cc in omega arith
flags_no_word os (x ∷ cs) c rest t e = let z : ◌≡◌ {A = ℕ} 0 1 = cc in omega arith

-- of the outcomes of a cluster, only one that is withdrawn is one Word
word_cluster : (os t : List ℕ) (c : Cluster) → ambiguous_at c ≡ none → cluster_items os c ≡ Word t ∷ [] → (k : ℕ) × (c ≡ withdrawn k)
unfolding cluster_items ambiguous_at flag_items
word_cluster os t (single c) a e = absurd (let z : ◌≡◌ {A = ℕ} 0 1 = cc in omega arith)
word_cluster os t (all_flags []) a e = absurd (let z : ◌≡◌ {A = ℕ} 0 1 = cc in omega arith)
word_cluster os t (all_flags (x ∷ cs)) a e = absurd (let z : ◌≡◌ {A = ℕ} 0 1 = cc in omega arith)
word_cluster os t (argument_letter cs c rest) a e = absurd (flags_no_word os cs c rest t e)
word_cluster os t (withdrawn k) a e = (k, refl)
word_cluster os t (ambiguous cs) a e = absurd (some≢none a)

-- the parts of an argument that is one Word: a name alone, whose cluster is withdrawn
record WordParts (l : Letters) (p : Parts) : Type 0 where
  place : ℕ
  short : p ≡ short_parts p.name
  outcome : outcome_of l p.name ≡ ok (withdrawn place)

module _ (l : Letters) (os t : List ℕ) where
  cluster_word : (name : List ℕ) → short_group l os name none ≡ ok (plain (Word t ∷ [])) → WordParts l (short_parts name)
  unfolding ◌>>=◌ cluster_group plain
  cluster_word name e = go (outcome_of l name) refl (sym (group_known l os name) ∙ e)
    where
      go :
          (o : Outcome Cluster)
          → outcome_of l name ≡ o
          → (o >>= λ c. ok (cluster_group os c)) ≡ ok (plain (Word t ∷ []))
          → WordParts l (short_parts name)
      go (ok c) h f =
          let clear = ap (λ (x : Group). x.ambiguous) (ok_injective f) in
          let x = word_cluster os t c clear (plain_items (cluster_group os c) (Word t ∷ []) f) in
          record { place = x.0; short = refl; outcome = h ∙ ap ok x.1 }
      go (refused r) h f = absurd (let z : ◌≡◌ {A = ℕ} 0 1 = cc in omega arith)
      go (fault r) h f = absurd (let z : ◌≡◌ {A = ℕ} 0 1 = cc in omega arith)

  value_no_word : (name v : List ℕ) → short_group l os name (some v) ≡ ok (plain (Word t ∷ [])) → ⊥
  unfolding short_group plain
  value_no_word name v e = go (decode name) refl
    where
      go : (d : CodeOption Char) → decode name ≡ d → ⊥
      go None h = let bad = rw (h, short_group) at e in let z : ◌≡◌ {A = ℕ} 0 1 = cc in omega arith
      go (Some c) h = let items = plain_items (plain _) (Word t ∷ []) (rw (h, short_group) at e) in let z : ◌≡◌ {A = ℕ} 0 1 = cc in omega arith

  parts_word :
      (y : ArgType) (n : List ℕ) (b : Option (List ℕ))
      → parts_group l os (record { type = y; name = n; body = b }) ≡ ok (plain (Word t ∷ []))
      → WordParts l (record { type = y; name = n; body = b })
  unfolding parts_group long_group plain
  parts_word short n none e = cluster_word n e
  parts_word short n (some v) e = absurd (value_no_word n v e)
  parts_word long n none e = absurd (let items = plain_items _ _ e in let z : ◌≡◌ {A = ℕ} 0 1 = cc in omega arith)
  parts_word long n (some v) e = absurd (let items = plain_items _ _ e in let z : ◌≡◌ {A = ℕ} 0 1 = cc in omega arith)

module _ (l : Letters) (os : List ℕ) (p : Parts) (e : split_argument l os ≡ ok (plain (Word os ∷ []))) (h : split_os_argument os ≡ ok (some p)) where
  word_is : WordParts l p
  unfolding split_argument ◌>>=◌
  word_is = parts_word l os os p.type p.name p.body (rw (h, split_argument) at e)

  pub word_parts : (p.type ≡ short) × (p.body ≡ none)
  word_parts = let w = word_is in (ap (λ (q : Parts). q.type) w.short, ap (λ (q : Parts). q.body) w.short)

  pub word_withdrawn : Withdrawn l os
  word_withdrawn =
      let w = word_is in
      record { name = p.name; place = w.place; parts = h ∙ ap (λ (q : Parts). ok (some q)) w.short; outcome = w.outcome }

pub withdrawn_word : (l : Letters) (os : List ℕ) → Withdrawn l os → split_argument l os ≡ ok (plain (Word os ∷ []))
unfolding split_argument parts_group cluster_group cluster_items ambiguous_at plain ◌>>=◌
withdrawn_word l os w = rw w.parts (group_known l os w.name ∙ rw w.outcome)
