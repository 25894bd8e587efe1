-- Every item lies in its argument: a text is the end of it, a long name stands behind the two dashes.
use Rattle.std.specs.Prelude.{if◌then◌else◌}
use mathlib.Core.Bool.{Bool, true, false}
use mathlib.Core.List.{List, [], ◌∷◌, ◌++◌}
use mathlib.Core.Option.{Option, some, none, some-injective, none-ne-some}
use mathlib.Core.Path.{◌≡◌, refl, sym, ap, ◌∙◌, subst}
use Prim.Native.Nat.{ℕ, zero, suc, ◌+◌, ◌-◌, ◌≤◌}
use native.Mathlib.Omega.{arith}
use lib.Dec.{leb, eqb}
use borrow.Author.Tests.{leb-true}
use lib.ListN.{length, take, drop, length-drop}
use lib.Seq.{drop-drop, drop-length, take-length}
use Rattle.utf8.specs.Utf8.{decode, well_formed}
use Rattle.std.specs.Prelude.{Option as CodeOption, Some, None}
use Rattle.utf8.specs.declared.Char.{Char}
use Rattle.rules.specs.Base.{null, same, contains, slice_from}
use Rattle.rules.specs.Outcome.{Outcome, ok, refused, fault, ◌>>=◌, at, Spot}
use Rattle.rules.specs.Accept.{Letters}
use Rattle.rules.specs.Demands.{All}
use Rattle.rules.specs.Split.{Item, Short, Long, ArgWord, Word, PosWord, dash, equals, ArgType, short, long, Parts}
use Rattle.rules.specs.Split.{behind_equals, before_equals, parts, split_long, split_short, behind_dash, split_os_argument}
use Rattle.rules.specs.Split.{Letter, cluster_from, Cluster, single, all_flags, argument_letter, withdrawn, ambiguous, pick_letter, look_up}
use Rattle.rules.specs.Split.{disambiguate_short, flag_items, argument_items, cluster_items}
use Rattle.rules.specs.Split.{Group, plain, cluster_group, short_group, long_group, parts_group, word_group, split_argument}
use Rattle.rules.specs.Split.{Split, positionals, joined, split_from}
use Rattle.rules.proofs.Acceptance.{All-append, All-map, if_some, if_not_some, branch}
use Rattle.rules.proofs.Went.{if_holds}
use Rattle.rules.proofs.SplitLaws.{ok_injective, short_body_lem}

-- ---- the end of an argument
abbrev pub Suffix : List ℕ → List ℕ → Type 0
Suffix t os = (k : ℕ) × (k ≤ length os) × (drop k os ≡ t)

all_suffix : (os : List ℕ) → Suffix os os
all_suffix os = (0, omega arith, refl)

no_suffix : (os : List ℕ) → Suffix [] os
no_suffix os = (length os, omega arith, drop-length os)

later_suffix : (x : ℕ) (t os : List ℕ) → Suffix t os → Suffix t (x ∷ os)
later_suffix x t os (k, l, e) = (suc k, omega arith, e)

suffix_of : (v t os : List ℕ) → Suffix v t → Suffix t os → Suffix v os
suffix_of v t os (j, l, e) (k, m, h) =
    let d = length-drop k os in
    let n = ap length h in
    (k + j, omega arith, sym (drop-drop j k os) ∙ ap (drop j) h ∙ e)

-- ---- what an item is
abbrev pub NamedIn : List ℕ → List ℕ → Type 0
NamedIn n os = (k : ℕ) × (k + 2 ≤ length os) × (take k (drop 2 os) ≡ n)

abbrev pub Within : List ℕ → Item → Type 0
Within os (Short c a t) = Suffix t os
Within os (Long n a t) = NamedIn n os × Suffix t os
Within os (ArgWord t) = Suffix t os
Within os (Word t) = Suffix t os
Within os (PosWord t) = Suffix t os

-- ---- `split_os_argument`
behind_suffix : (s v : List ℕ) → behind_equals s ≡ some v → Suffix v s
unfolding behind_equals
behind_suffix [] v e = absurd (none-ne-some v e)
behind_suffix (b ∷ s) v e =
    branch {P = Suffix v (b ∷ s)} (eqb b equals) (some s) (behind_equals s)
    (λ _ h. later_suffix b v s (subst (λ (w : List ℕ). Suffix w s) (some-injective s v h) (all_suffix s)))
    (λ h. later_suffix b v s (behind_suffix s v h))
    e

before_prefix : (s : List ℕ) → (k : ℕ) × (k ≤ length s) × (take k s ≡ before_equals s)
unfolding before_equals
before_prefix [] = (0, omega arith, refl)
before_prefix (b ∷ s) = go (eqb b equals) refl (before_prefix s)
  where
    go :
        (t : Bool)
        → eqb b equals ≡ t
        → ((k : ℕ) × (k ≤ length s) × (take k s ≡ before_equals s))
        → (k : ℕ) × (k ≤ suc (length s)) × (take k (b ∷ s) ≡ before_equals (b ∷ s))
    go true e r = (0, omega arith, rw e)
    go false e (k, l, h) = (suc k, omega arith, rw e (ap (λ (w : List ℕ). b ∷ w) h))

-- what the parts of an argument are
abbrev NameIn : List ℕ → ArgType → Option (List ℕ) → List ℕ → Type 0
NameIn os short none n = Suffix n os
NameIn os short (some v) n = Suffix v os
NameIn os long none n = NamedIn n os
NameIn os long (some v) n = NamedIn n os × Suffix v os

parts_in : (os n : List ℕ) (t : ArgType) (b : Option (List ℕ)) (x : Parts) → NameIn os t b n → parts t n b ≡ some x → NameIn os x.type x.body x.name
unfolding parts
parts_in os n t b x h e =
    let p = if_some (well_formed n) (some (record { type = t; name = n; body = b })) e in
    subst (λ (y : Parts). NameIn os y.type y.body y.name) (some-injective _ x p.1) h

long_in : (a b : ℕ) (s : List ℕ) (x : Parts) → split_long s ≡ some x → NameIn (a ∷ b ∷ s) x.type x.body x.name
unfolding split_long
long_in a b s x e = go (behind_equals s) refl
  where
    go : (v : Option (List ℕ)) → behind_equals s ≡ v → NameIn (a ∷ b ∷ s) x.type x.body x.name
    go none h = parts_in (a ∷ b ∷ s) s long none x (length s, omega arith, take-length s) (if_not_some (null s) (parts long s none) (rw (h, split_long) at e)).1
    go (some v) h =
        let (k, l, q) = before_prefix s in
        let (j, m, r) = behind_suffix s v h in
        parts_in (a ∷ b ∷ s) (before_equals s) long (some v) x ((k, omega arith, q), (suc (suc j), omega arith, r)) (rw (h, split_long) at e)

short_in : (a b : ℕ) (s : List ℕ) (x : Parts) → split_short b s ≡ ok (some x) → NameIn (a ∷ b ∷ s) x.type x.body x.name
unfolding split_short ◌>>=◌
short_in a b s x e = go (behind_equals s) refl
  where
    value : (v : List ℕ) (t : Bool) → Suffix v s → Suffix (if t then v else s) (a ∷ b ∷ s)
    value v true (k, l, h) = (suc (suc k), omega arith, h)
    value v false h = (2, omega arith, refl)

    go : (v : Option (List ℕ)) → behind_equals s ≡ v → NameIn (a ∷ b ∷ s) x.type x.body x.name
    go none h = parts_in (a ∷ b ∷ s) (b ∷ s) short none x (1, omega arith, refl) (ok_injective (rw (h, split_short) at e))
    go (some v) h =
        parts_in (a ∷ b ∷ s) (b ∷ []) short (some (if null (before_equals s) then v else s)) x
        (value v (null (before_equals s)) (behind_suffix s v h)) (ok_injective (rw (h, split_short, short_body_lem b s v h) at e))

no_parts : {P : Type 0} (x : Parts) → ok none ≡ ok (some x) → P
no_parts x e = absurd (none-ne-some x (ok_injective e))

os_in : (os : List ℕ) (x : Parts) → split_os_argument os ≡ ok (some x) → NameIn os x.type x.body x.name
unfolding split_os_argument behind_dash
os_in [] x e = no_parts x e
os_in (a ∷ []) x e = branch (eqb a dash) (ok none) (ok none) (λ _ h. no_parts x h) (λ h. no_parts x h) e
os_in (a ∷ b ∷ s) x e =
    branch {P = NameIn (a ∷ b ∷ s) x.type x.body x.name} (eqb a dash) (behind_dash (b ∷ s)) (ok none)
    (λ _ g. branch (eqb b dash) (ok (split_long s)) (split_short b s) (λ _ h. long_in a b s x (ok_injective h)) (λ h. short_in a b s x h) g)
    (λ h. no_parts x h)
    e

-- ---- clusters
pub bind_ok : {A B : Type 0} (o : Outcome A) (f : A → Outcome B) {y : B} → (o >>= f) ≡ ok y → (a : A) × (o ≡ ok a) × (f a ≡ ok y)
unfolding ◌>>=◌
bind_ok (ok a) f e = (a, refl, e)
bind_ok (refused r) f e = absurd (let z : ◌≡◌ {A = ℕ} 0 1 = cc in omega arith)
bind_ok (fault r) f e = absurd (let z : ◌≡◌ {A = ℕ} 0 1 = cc in omega arith)

slice_suffix : (n : ℕ) (l : List ℕ) (spot : Spot) (t : List ℕ) → at spot (slice_from n l) ≡ ok t → Suffix t l
unfolding slice_from at
slice_suffix n l spot t e = go (leb n (length l)) refl e
  where
    go : (b : Bool) → leb n (length l) ≡ b → at spot (if b then some (drop n l) else none) ≡ ok t → Suffix t l
    go true h e = (n, leb-true n (length l) h, ok_injective e)
    go false h e = absurd (let z : ◌≡◌ {A = ℕ} 0 1 = cc in omega arith)

abbrev RestIn : List ℕ → Letter → Type 0
RestIn n x = Suffix x.rest n

rests_in : (skip k : ℕ) (s : List ℕ) (ls : List Letter) → cluster_from skip k s ≡ ok ls → All (RestIn s) ls
unfolding cluster_from
rests_in skip k [] ls e = subst (All (RestIn [])) (ok_injective e) tt
rests_in (suc skip) k (b ∷ s) ls e =
    All-map (RestIn s) (RestIn (b ∷ s)) (λ x. later_suffix b x.rest s) ls (rests_in skip (suc k) s ls e)
rests_in zero k (b ∷ s) ls e = go (decode (b ∷ s)) refl (λ n ks. rests_in (n - 1) (suc k) s ks)
  where
    go :
        (d : CodeOption Char)
        → decode (b ∷ s) ≡ d
        → ((n : ℕ) (ks : List Letter) → cluster_from (n - 1) (suc k) s ≡ ok ks → All (RestIn s) ks)
        → All (RestIn (b ∷ s)) ls
    go None h later = absurd (let z : fault _ ≡ ok ls = rw (h, cluster_from) at e in let y : ◌≡◌ {A = ℕ} 0 1 = cc in omega arith)
    go (Some c) h later =
        let (t, p, q) = bind_ok _ _ (rw (h, cluster_from) at e) in
        let (ks, u, v) = bind_ok _ _ q in
        subst (All (RestIn (b ∷ s))) (ok_injective v)
        (slice_suffix c.size (b ∷ s) _ t p, All-map (RestIn s) (RestIn (b ∷ s)) (λ x. later_suffix b x.rest s) ks (later c.size ks u))

-- the rest behind an argument's letter lies in the name
abbrev ClusterIn : List ℕ → Cluster → Type 0
ClusterIn n (single c) = Unit {0}
ClusterIn n (all_flags cs) = Unit {0}
ClusterIn n (argument_letter cs c rest) = Suffix rest n
ClusterIn n (withdrawn k) = Unit {0}
ClusterIn n (ambiguous cs) = Unit {0}

pick_in : (P : Cluster → Type 0) (a b : Bool) (w x y z : Cluster) → P w → P x → P y → P z → P (pick_letter a b w x y z)
unfolding pick_letter
pick_in P true true w x y z p q r s = s
pick_in P true false w x y z p q r s = p
pick_in P false true w x y z p q r s = q
pick_in P false false w x y z p q r s = r

look_up_in : (n : List ℕ) (l : Letters) (before : List ℕ) (ls : List Letter) → All (RestIn n) ls → ClusterIn n (look_up l before ls)
unfolding look_up
look_up_in n l before [] h = tt
look_up_in n l before (x ∷ xs) h =
    pick_in (ClusterIn n) (contains l.flags x.character) (contains l.arguments x.character) _ _ _ _
    (look_up_in n l (before ++ (x.character ∷ [])) xs h.1) h.0 tt tt

short_cluster_in : (n : List ℕ) (l : Letters) (ls : List Letter) → All (RestIn n) ls → ClusterIn n (disambiguate_short l ls)
unfolding disambiguate_short
short_cluster_in n l [] h = tt
short_cluster_in n l (x ∷ xs) h =
    if_holds (ClusterIn n) (null x.rest) (single x.character) (look_up l [] (x ∷ xs)) (λ _. tt) (λ _. look_up_in n l [] (x ∷ xs) h)

flags_in : (os t cs : List ℕ) → Suffix t os → All (Within os) (flag_items t cs)
unfolding flag_items
flags_in os t [] h = tt
flags_in os t (c ∷ cs) h = (h, flags_in os [] cs (no_suffix os))

argument_in : (os : List ℕ) (c : ℕ) (rest : List ℕ) → Suffix rest os → All (Within os) (argument_items os c rest)
unfolding argument_items
argument_in os c rest h =
    if_holds (All (Within os)) (null rest) (Short c false os ∷ []) (Short c true os ∷ Word rest ∷ [])
    (λ _. (all_suffix os, tt)) (λ _. (all_suffix os, (h, tt)))

cluster_in : (os n : List ℕ) (c : Cluster) → Suffix n os → ClusterIn n c → All (Within os) (cluster_items os c)
unfolding cluster_items
cluster_in os n (single c) h k = (all_suffix os, tt)
cluster_in os n (all_flags cs) h k = flags_in os os cs (all_suffix os)
cluster_in os n (argument_letter cs c rest) h k =
    All-append (Within os) (flag_items os cs) (argument_items os c rest) (flags_in os os cs (all_suffix os)) (argument_in os c rest (suffix_of rest n os k h))
cluster_in os n (withdrawn k) h z = (all_suffix os, tt)
cluster_in os n (ambiguous cs) h k =
    All-append (Within os) (flag_items os cs) (Word os ∷ []) (flags_in os os cs (all_suffix os)) (all_suffix os, tt)

-- ---- one argument
abbrev Holds : List ℕ → Group → Type 0
Holds os g = All (Within os) g.items

short_group_in : (l : Letters) (os n : List ℕ) (b : Option (List ℕ)) (g : Group) → NameIn os short b n → short_group l os n b ≡ ok g → Holds os g
unfolding short_group cluster_group plain
short_group_in l os n none g h e =
    let (ls, p, q) = bind_ok (cluster_from 0 0 n) (λ ls. ok (cluster_group os (disambiguate_short l ls))) e in
    subst (Holds os) (ok_injective q)
    (cluster_in os n (disambiguate_short l ls) h (short_cluster_in n l ls (rests_in 0 0 n ls p)))
short_group_in l os n (some v) g h e = go (decode n) refl
  where
    go : (d : CodeOption Char) → decode n ≡ d → Holds os g
    go None k = absurd (let z : fault _ ≡ ok g = rw (k, short_group) at e in let y : ◌≡◌ {A = ℕ} 0 1 = cc in omega arith)
    go (Some c) k = subst (Holds os) (ok_injective (rw (k, short_group) at e)) (all_suffix os, (h, tt))

long_group_in : (os n : List ℕ) (b : Option (List ℕ)) → NameIn os long b n → Holds os (long_group os n b)
unfolding long_group plain
long_group_in os n none h = ((h, all_suffix os), tt)
long_group_in os n (some v) h = ((h.0, all_suffix os), (h.1, tt))

parts_group_in : (l : Letters) (os n : List ℕ) (t : ArgType) (b : Option (List ℕ)) (g : Group) → NameIn os t b n
    → parts_group l os (record { type = t; name = n; body = b }) ≡ ok g → Holds os g
unfolding parts_group
parts_group_in l os n short b g h e = short_group_in l os n b g h e
parts_group_in l os n long b g h e = subst (Holds os) (ok_injective e) (long_group_in os n b h)

word_group_in : (os : List ℕ) → Holds os (word_group os)
unfolding word_group plain
word_group_in os =
    if_holds (Holds os) (same os (dash ∷ dash ∷ [])) _ _ (λ _. (all_suffix os, tt)) (λ _. (all_suffix os, tt))

group_in : (l : Letters) (os : List ℕ) (g : Group) → split_argument l os ≡ ok g → Holds os g
unfolding split_argument
group_in l os g e =
    let (o, h, q) = bind_ok (split_os_argument os) (λ p. elim p [ none ↦ ok (word_group os) | some x ↦ parts_group l os x ]) e in
    go o h q
  where
    go : (o : Option Parts) → split_os_argument os ≡ ok o → (elim o [ none ↦ ok (word_group os) | some x ↦ parts_group l os x ]) ≡ ok g → Holds os g
    go none h q = subst (Holds os) (ok_injective q) (word_group_in os)
    go (some x) h q = parts_group_in l os x.name x.type x.body g (os_in os x h) q

-- ---- all arguments
abbrev pub AllWithin : List (List ℕ) → List (List Item) → Type 0
AllWithin args [] = Unit {0}
AllWithin [] (g ∷ gs) = ⊥
AllWithin (os ∷ rest) (g ∷ gs) = All (Within os) g × AllWithin rest gs

positionals_in : (rest : List (List ℕ)) → AllWithin rest (positionals rest)
unfolding positionals
positionals_in [] = tt
positionals_in (os ∷ rest) = ((all_suffix os, tt), positionals_in rest)

joined_in :
    (k : ℕ) (os : List ℕ) (rest : List (List ℕ)) (is : List Item) (a : Option ℕ) (m : Bool) (others : Outcome Split) (x : Split)
    → joined k (record { items = is; ambiguous = a; marker = m }) rest others ≡ ok x
    → All (Within os) is
    → ((y : Split) → others ≡ ok y → AllWithin rest y.groups)
    → AllWithin (os ∷ rest) x.groups
unfolding joined
joined_in k os rest is (some i) m others x e h later = subst (λ (y : Split). AllWithin (os ∷ rest) y.groups) (ok_injective e) (h, tt)
joined_in k os rest is none true others x e h later = subst (λ (y : Split). AllWithin (os ∷ rest) y.groups) (ok_injective e) (h, positionals_in rest)
joined_in k os rest is none false others x e h later =
    let (y, p, q) = bind_ok others (λ s. ok (record { groups = is ∷ s.groups; marker = s.marker; ambiguous = s.ambiguous })) e in
    subst (λ (y : Split). AllWithin (os ∷ rest) y.groups) (ok_injective q) (h, later y p)

pub splits_in : (l : Letters) (k : ℕ) (args : List (List ℕ)) (x : Split) → split_from l k args ≡ ok x → AllWithin args x.groups
unfolding split_from
splits_in l k [] x e = subst (λ (y : Split). AllWithin [] y.groups) (ok_injective e) tt
splits_in l k (os ∷ rest) x e =
    let (g, p, q) = bind_ok (split_argument l os) (λ g. joined k g rest (split_from l (k + length g.items) rest)) e in
    joined_in k os rest g.items g.ambiguous g.marker (split_from l (k + length g.items) rest) x q (group_in l os g p)
    (λ y h. splits_in l (k + length g.items) rest y h)
