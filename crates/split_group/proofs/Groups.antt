-- Each way out of the functions that split one argument, against the definition.
use mathlib.Core.Path.{◌≡◌, refl, sym, ◌∙◌, ap, ap₂, subst}
use mathlib.Core.Bool.{Bool, true, false, ◌&&◌, false≢true}
use mathlib.Core.List.{List, [], ◌∷◌, ◌++◌, append-nil}
use mathlib.Core.Option.{some, none}
use Prim.Native.Nat.{ℕ, zero, suc, ◌+◌, ◌-◌, ◌^◌, ◌≤◌, ◌<◌, zero-le}
use native.Mathlib.Omega.{arith}
use lib.Dec.{eqb}
use lib.Pointwise.{pointwise}
use lib.ListN.{length, take, drop, length-drop, length-append, length-map}
use lib.Seq.{length-take-le, take_all, drop-drop}
use Rattle.utf8.specs.Utf8.{decode, decode_at, well_formed}
use Rattle.utf8.specs.Laws.{well_formed_bad}
use Rattle.std.specs.Prelude.{Option as CodeOption, Some, None}
use Rattle.utf8.specs.declared.Char.{Char}
use Rattle.rules.specs.Base.{same, concat_map}
use Rattle.rules.specs.Outcome.{Outcome, ok, refused, fault, ◌>>=◌, at}
use Rattle.rules.specs.Accept.{Letters}
use Rattle.rules.specs.Split.{Letter, cluster_from, Cluster, ambiguous, flag_items, argument_items, cluster_items, ambiguous_at}
use Rattle.rules.specs.Split.{dash, split_os_argument, item_words, plain, cluster_group, short_group, long_group, parts_group, word_group, split_argument}
use Rattle.rules.specs.Split.{Group as Meaning}
use Rattle.rules.specs.Split as rules
use Rattle.split_arg.specs.declared.Part.{Part}
use Rattle.split_arg.specs.declared.Item.{Item}
use Rattle.split_arg.specs.declared.Item.TheVariants.{Short, Long, ArgWord, Word, PosWord}
use Rattle.split_arg.specs.declared.Parts.{Parts}
use Rattle.split_arg.specs.declared.Parts.TheVariants as P
use Rattle.split_arg.specs.declared.Outcome.{Outcome as Found}
use Rattle.split_arg.specs.declared.Outcome.TheVariants.{Single, AllFlags, Argument, Withdrawn, Ambiguous}
use Rattle.split_arg.specs.Parts.{parts_of, name_of, Sized, TellsParts}
use Rattle.split_arg.specs.Clusters.{letters, characters, cluster_of, CountedLetters, Disambiguates}
use Rattle.split_arg.specs.Items.{part_of, record_of}
use Rattle.split_arg.proofs.LookUp.{ok_same}
use Rattle.split_arg.proofs.Names.{null_false, null_true}
use Rattle.split_group.specs.declared.Group.{Group}
use Rattle.split_group.specs.Groups.{letters_in, first_letters, flag_words, stored, ArgumentFits, ClusterIn, ValueIn, Flags, Puts, told, Makes}
use Rattle.split_group.proofs.Flags.{letters_in_lem}
use Rattle.rules.proofs.ConcatLaws.{concat_append}
use Rattle.split_group.proofs.Records.{TextIs, text_from, name_from, short_record, long_record, arg_word_record, word_record, pos_word_record, flag_records}
use Rattle.split_group.proofs.Records.{flags_count}

-- ---- a group whose items are known
pub makes :
    (os : List ℕ) (begin at : ℕ) (o p : List ℕ) (r : Group) (n : ℕ) (a : CodeOption ℕ) (w : List ℕ) (x : Outcome Meaning) (g : Meaning)
    → Puts o at p r n a w
    → x ≡ ok g
    → record { count = n; ambiguous = a; marker = false } ≡ told g
    → w ≡ concat_map (item_words begin (begin + length os)) g.items
    → Makes os begin at o p r x
makes os begin at o p r n a w x g z e t q = record {
  group = g;
  same = e;
  told≡ = z.group ∙ t;
  words = z.words≡ ∙ ap₂ (λ (m : ℕ) (v : List ℕ). stored o at m v) (ap (λ (y : Group). y.count) t) q;
}

pub makes_same :
    (os : List ℕ) (begin at : ℕ) (o p : List ℕ) (r : Group) (x y : Outcome Meaning)
    → Makes os begin at o p r x
    → y ≡ x
    → Makes os begin at o p r y
makes_same os begin at o p r x y z e = record { group = z.group; same = e ∙ z.same; told≡ = z.told≡; words = z.words }

module _ (os : List ℕ) (begin at : ℕ) (o p : List ℕ) (r : Group) (x : Outcome Meaning) where
  pub makes_one :
      (i : rules.Item) (j : Item)
      → Puts o at p r 1 None (record_of j)
      → x ≡ ok (plain (i ∷ []))
      → item_words begin (begin + length os) i ≡ record_of j
      → Makes os begin at o p r x
  unfolding plain concat_map
  makes_one i j z e q = makes os begin at o p r 1 None (record_of j) x (plain (i ∷ [])) z e refl (sym (append-nil _ ∙ q))

  pub makes_two :
      (i k : rules.Item) (j l : Item)
      → Puts o at p r 2 None (record_of j ++ record_of l)
      → x ≡ ok (plain (i ∷ k ∷ []))
      → item_words begin (begin + length os) i ≡ record_of j
      → item_words begin (begin + length os) k ≡ record_of l
      → Makes os begin at o p r x
  unfolding plain concat_map
  makes_two i k j l z e q s =
      makes os begin at o p r 2 None (record_of j ++ record_of l) x (plain (i ∷ k ∷ [])) z e refl
      (sym (ap₂ (λ (v w : List ℕ). v ++ w) q (append-nil _ ∙ s)))

-- ---- `--`
pub pointwise_same : (xs ys : List ℕ) → pointwise eqb xs ys ≡ same xs ys
unfolding same
pointwise_same [] [] = refl
pointwise_same [] (y ∷ ys) = refl
pointwise_same (x ∷ xs) [] = refl
pointwise_same (x ∷ xs) (y ∷ ys) = ap (λ (t : Bool). eqb x y && t) (pointwise_same xs ys)

-- what the code found is what splitting gives
found : (os : List ℕ) (q : CodeOption Parts) → TellsParts os q (split_os_argument os) → (u : CodeOption Parts) → q ≡ u → split_os_argument os ≡ ok (parts_of os u)
found os q t u f = sym t.same ∙ ap (λ (v : CodeOption Parts). ok (parts_of os v)) f

module _ (os : List ℕ) (begin at : ℕ) (o p : List ℕ) (g : Group) (whole : Part) (e : whole ≡ part_of (begin + 0) (length os - 0)) where
  text : TextIs (begin + length os) os whole
  text = text_from os begin 0 whole zero-le e

  pub a_marker :
      same os (dash ∷ dash ∷ []) ≡ true
      → Puts o at p g 1 None (record_of (PosWord whole))
      → Makes os begin at o p (record { count = g.count; ambiguous = g.ambiguous; marker = true }) (ok (word_group os))
  unfolding word_group concat_map
  a_marker s z =
      rw (s, word_group)
      (record {
        group = record { items = rules.PosWord os ∷ []; ambiguous = none; marker = true };
        same = refl;
        told≡ = ap (λ (y : Group). record { count = y.count; ambiguous = y.ambiguous; marker = true }) z.group;
        words = z.words≡ ∙ ap (λ (w : List ℕ). stored o at 1 w) (sym (append-nil _ ∙ pos_word_record begin (begin + length os) os whole text));
      })

  pub a_word : same os (dash ∷ dash ∷ []) ≡ false → Puts o at p g 1 None (record_of (Word whole)) → Makes os begin at o p g (ok (word_group os))
  unfolding word_group
  a_word s z =
      makes_one os begin at o p g (ok (word_group os)) (rules.Word os) (Word whole) z (rw (s, word_group))
      (word_record begin (begin + length os) os whole text)

  pub a_positional : Puts o at p g 1 None (record_of (PosWord whole)) → Makes os begin at o p g (ok (plain (rules.PosWord os ∷ [])))
  a_positional z =
      makes_one os begin at o p g (ok (plain (rules.PosWord os ∷ []))) (rules.PosWord os) (PosWord whole) z refl
      (pos_word_record begin (begin + length os) os whole text)

  -- ---- a letter with a value
  pub a_value :
      (body : ℕ) (value : Part) (c : Char)
      → value ≡ part_of (begin + body) (length os - body)
      → body ≤ length os
      → decode_at (take 1 (drop 1 os)) 0 ≡ Some c
      → Puts o at p g 2 None (record_of (Short c.value true whole) ++ record_of (ArgWord value))
      → (l : Letters)
      → Makes os begin at o p g (short_group l os (take 1 (drop 1 os)) (some (drop body os)))
  unfolding short_group decode_at
  a_value body value c f h d z l =
      makes_two os begin at o p g _ (rules.Short c.value true os) (rules.ArgWord (drop body os)) (Short c.value true whole) (ArgWord value) z
      (rw (d, short_group))
      (short_record begin (begin + length os) os whole text c.value true)
      (arg_word_record begin (begin + length os) (drop body os) value (text_from os begin body value h f))

  -- ---- a long name
  module _ (l : Letters) (q : CodeOption Parts) (t : TellsParts os q (split_os_argument os)) where
    pub a_long :
        (n : ℕ) (name : Part)
        → q ≡ Some (P.Long n)
        → name ≡ part_of (begin + 2) (n + 2 - 2)
        → Puts o at p g 1 None (record_of (Long name false whole))
        → Makes os begin at o p g (split_argument l os)
    unfolding split_argument parts_group long_group ◌>>=◌
    a_long n name f m z =
        let s : Sized os (Some (P.Long n)) = subst (Sized os) f t.sized in
        makes_one os begin at o p g (split_argument l os) (rules.Long (take n (drop 2 os)) false os) (Long name false whole) z
        (rw (found os q t (Some (P.Long n)) f, split_argument))
        (long_record begin (begin + length os) os whole text (take n (drop 2 os)) name false (name_from os begin n name (omega (arith, s.1)) m))

    pub a_long_value :
        (n body : ℕ) (name value : Part)
        → q ≡ Some (P.LongBody n body)
        → name ≡ part_of (begin + 2) (n + 2 - 2)
        → value ≡ part_of (begin + body) (length os - body)
        → Puts o at p g 2 None (record_of (Long name true whole) ++ record_of (ArgWord value))
        → Makes os begin at o p g (split_argument l os)
    unfolding split_argument parts_group long_group ◌>>=◌
    a_long_value n body name value f m v z =
        let s : Sized os (Some (P.LongBody n body)) = subst (Sized os) f t.sized in
        makes_two os begin at o p g (split_argument l os)
        (rules.Long (take n (drop 2 os)) true os) (rules.ArgWord (drop body os)) (Long name true whole) (ArgWord value) z
        (rw (found os q t (Some (P.LongBody n body)) f, split_argument))
        (long_record begin (begin + length os) os whole text (take n (drop 2 os)) name true (name_from os begin n name (omega (arith, s.0, s.1)) m))
        (arg_word_record begin (begin + length os) (drop body os) value (text_from os begin body value s.1 v))

-- ---- the other kinds of argument, from the functions that split them
module _ (os : List ℕ) (begin at : ℕ) (o p : List ℕ) (g : Group) (l : Letters) (q : CodeOption Parts) (t : TellsParts os q (split_os_argument os)) where
  pub no_name : q ≡ None → Makes os begin at o p g (ok (word_group os)) → Makes os begin at o p g (split_argument l os)
  unfolding split_argument ◌>>=◌
  no_name f z = makes_same os begin at o p g _ _ z (rw (found os q t None f, split_argument))

  pub short_name_lem :
      (n : ℕ)
      → q ≡ Some (P.Short n)
      → Makes os begin at o p g (short_group l os (drop 1 os) none)
      → Makes os begin at o p g (split_argument l os)
  unfolding split_argument parts_group ◌>>=◌
  short_name_lem n f z =
      let s : Sized os (Some (P.Short n)) = subst (Sized os) f t.sized in
      let all : take n (drop 1 os) ≡ drop 1 os = take_all n (drop 1 os) (omega (arith, s.1, length-drop 1 os)) in
      makes_same os begin at o p g _ _ z (rw (found os q t (Some (P.Short n)) f, split_argument, all))

  pub short_value_name :
      (n body : ℕ)
      → q ≡ Some (P.ShortBody n body)
      → ((l : Letters) → Makes os begin at o p g (short_group l os (take 1 (drop 1 os)) (some (drop body os))))
      → Makes os begin at o p g (split_argument l os)
  unfolding split_argument parts_group ◌>>=◌
  short_value_name n body f z =
      let s : Sized os (Some (P.ShortBody n body)) = subst (Sized os) f t.sized in
      makes_same os begin at o p g _ _ (z l) (rw (found os q t (Some (P.ShortBody n body)) f, split_argument, s.0))

module _ (os : List ℕ) (begin at : ℕ) (q : CodeOption Parts) (t : TellsParts os q (split_os_argument os)) (h : ArgumentFits os begin at) where
  pub cluster_in : (n : ℕ) → q ≡ Some (P.Short n) → ClusterIn os begin at
  cluster_in n f =
      let s : Sized os (Some (P.Short n)) = subst (Sized os) f t.sized in
      let all : take n (drop 1 os) ≡ drop 1 os = take_all n (drop 1 os) (omega (arith, s.1, length-drop 1 os)) in
      let good : well_formed (take n (drop 1 os)) ≡ true = subst (λ (u : CodeOption Parts). well_formed (name_of os u) ≡ true) f t.good in
      record { fits = h; some = omega (arith, s.1); good = rw all at good }

  pub value_in : (n body : ℕ) → q ≡ Some (P.ShortBody n body) → ValueIn os begin body at
  value_in n body f =
      let s : Sized os (Some (P.ShortBody n body)) = subst (Sized os) f t.sized in
      let good : well_formed (take n (drop 1 os)) ≡ true = subst (λ (u : CodeOption Parts). well_formed (name_of os u) ≡ true) f t.good in
      record { fits = h; two = omega (arith, s.1, s.2); within = s.2; good = rw s.0 at good }

  -- where a long name ends, and where its value begins
  module _ (n : ℕ) where
    module _ (f : q ≡ Some (P.Long n)) where
      long_end : n + 2 ≤ length os
      long_end = let s : Sized os (Some (P.Long n)) = subst (Sized os) f t.sized in omega (arith, s.1)

      pub long_fits : n + 2 < 2 ^ 64
      long_fits = omega (arith, long_end, h.small)

      pub long_inside : begin + (n + 2) < 2 ^ 32
      long_inside = omega (arith, long_end, h.small)

    module _ (body : ℕ) (f : q ≡ Some (P.LongBody n body)) where
      ends : (n + 2 ≤ length os) × (body ≤ length os)
      ends = let s : Sized os (Some (P.LongBody n body)) = subst (Sized os) f t.sized in (omega (arith, s.0, s.1), s.1)

      pub named_fits : n + 2 < 2 ^ 64
      named_fits = omega (arith, ends.0, h.small)

      pub named_inside : begin + (n + 2) < 2 ^ 32
      named_inside = omega (arith, ends.0, h.small)

      pub value_inside : body ≤ length os
      value_inside = ends.1

-- a letter that is UTF-8 is there
pub letter_known :
    {A : Type 0} (os : List ℕ) (begin body at : ℕ) → ValueIn os begin body at → decode_at (take 1 (drop 1 os)) 0 ≡ None → A
letter_known os begin body at v e =
    let two = v.two in
    let l : length (take 1 (drop 1 os)) ≡ 1 = length-take-le 1 (drop 1 os) (omega (arith, length-drop 1 os)) in
    absurd (false≢true (sym (well_formed_bad (take 1 (drop 1 os)) 0 (omega arith) e) ∙ v.good))

-- ---- a cluster
pub tail_all : (os : List ℕ) → take (length os - 1) (drop 1 os) ≡ drop 1 os
tail_all os = take_all (length os - 1) (drop 1 os) (omega (arith, length-drop 1 os))

pub name_good_lem : (os : List ℕ) (begin at : ℕ) → ClusterIn os begin at → well_formed (take (length os - 1) (drop 1 os)) ≡ true
name_good_lem os begin at h = rw (tail_all os) h.good

bind_ok : {A B : Type 0} (o : Outcome A) (f : A → Outcome B) (b : B) → (o >>= f) ≡ ok b → (a : A) × (o ≡ ok a) × (f a ≡ ok b)
unfolding ◌>>=◌
bind_ok (ok a) f b e = (a, refl, e)
bind_ok (refused x) f b e = absurd (let z : ◌≡◌ {A = ℕ} 0 1 = cc in omega arith)
bind_ok (fault x) f b e = absurd (let z : ◌≡◌ {A = ℕ} 0 1 = cc in omega arith)

-- a letter has a byte of its own
letters_few : (skip k : ℕ) (s : List ℕ) (ls : List Letter) → cluster_from skip k s ≡ ok ls → length ls ≤ length s
unfolding cluster_from
letters_few skip k [] ls e = rw (← ok_same e) zero-le
letters_few (suc skip) k (b ∷ s) ls e = omega (arith, letters_few skip (suc k) s ls e)
letters_few zero k (b ∷ s) ls e = go (decode (b ∷ s)) refl (λ m xs. letters_few m (suc k) s xs)
  where
    go :
        (d : CodeOption Char)
        → decode (b ∷ s) ≡ d
        → ((m : ℕ) (xs : List Letter) → cluster_from m (suc k) s ≡ ok xs → length xs ≤ length s)
        → length ls ≤ suc (length s)
    go None f r = absurd (let z = rw (f, cluster_from) at e in let y : ◌≡◌ {A = ℕ} 0 1 = cc in omega arith)
    go (Some c) f r =
        let x = bind_ok _ _ ls (rw (f, cluster_from) at e) in
        let y = bind_ok _ _ ls x.2 in
        let more = ap length (ok_same y.2) in
        omega (arith, r (c.size - 1) y.0 y.1)

module _
    (fl ar os : List ℕ)
    (begin at : ℕ)
    (h : ClusterIn os begin at)
    (name : List ℕ)
    (tail : name ≡ drop 1 os)
    (r : Found)
    (d : Disambiguates (letters fl ar) name r)
  where
    all_letters : letters_in name ≡ d.all
    all_letters = letters_in_lem name d.all d.these

    bytes : length name + 1 ≡ length os
    bytes = omega (arith, ap length tail, length-drop 1 os, h.some)

    cluster_is : (u : Found) → r ≡ u → short_group (letters fl ar) os (drop 1 os) none ≡ ok (cluster_group os (cluster_of name d.all u))
    unfolding short_group ◌>>=◌
    cluster_is u e =
        rw (← tail, d.these)
        (ap (λ (c : Cluster). ok (cluster_group os c)) (sym d.same ∙ ap (λ (v : Found). cluster_of name d.all v) e))

    counted : (u : Found) → r ≡ u → CountedLetters name d.all u
    counted u e = subst (λ (v : Found). CountedLetters name d.all v) e d.counted

    flags_in : (n : ℕ) → n ≤ length d.all → Flags name n at
    flags_in n f = record {
      good = rw tail h.good;
      few = rw all_letters f;
      short = omega (arith, letters_few 0 0 name d.all d.these);
      places = h.fits.places;
    }

    pub flags_all : (n : ℕ) → r ≡ AllFlags n → Flags name n at
    flags_all n e = flags_in n (omega (arith, counted (AllFlags n) e))

    pub flags_argument : (n c k : ℕ) → r ≡ Argument n c k → Flags name n at
    flags_argument n c k e = flags_in n (omega (arith, (counted (Argument n c k) e).0))

    pub flags_ambiguous : (n : ℕ) → r ≡ Ambiguous n → Flags name n at
    flags_ambiguous n e = flags_in n (omega (arith, counted (Ambiguous n) e))

    -- where the rest begins
    pub rest_within : (n c k : ℕ) → r ≡ Argument n c k → k + 1 ≤ length os
    rest_within n c k e = omega (arith, (counted (Argument n c k) e).1, bytes)

    pub rest_fits : (n c k : ℕ) → r ≡ Argument n c k → k + 1 < 2 ^ 64
    rest_fits n c k e = omega (arith, rest_within n c k e, h.fits.small)

    first_count : (n : ℕ) → n ≤ length d.all → length (take n (characters d.all)) ≡ n
    unfolding characters
    first_count n f = length-take-le n _ (omega (arith, length-map d.all (λ (x : Letter). x.character)))

    module _ (o p : List ℕ) (g : Group) (whole : Part) (e : whole ≡ part_of (begin + 0) (length os - 0)) where
      all_text : TextIs (begin + length os) os whole
      all_text = text_from os begin 0 whole zero-le e

      abbrev Out : Type 0
      Out = Makes os begin at o p g (short_group (letters fl ar) os (drop 1 os) none)

      flags_are :
          (n : ℕ)
          → flag_words whole (first_letters name n)
          ≡ concat_map (item_words begin (begin + length os)) (flag_items os (take n (characters d.all)))
      flags_are n = rw all_letters (sym (flag_records begin (begin + length os) os whole (take n (characters d.all)) all_text))

      pub one_letter : (c : ℕ) → r ≡ Single c → Puts o at p g 1 None (record_of (Short c false whole)) → Out
      unfolding cluster_group cluster_items ambiguous_at concat_map
      one_letter c f z =
          makes os begin at o p g 1 None _ _ _ z (cluster_is (Single c) f) refl
          (sym (append-nil _ ∙ short_record begin (begin + length os) os whole all_text c false))

      pub unknown_letter_lem : (k : ℕ) → r ≡ Withdrawn k → Puts o at p g 1 None (record_of (Word whole)) → Out
      unfolding cluster_group cluster_items ambiguous_at concat_map
      unknown_letter_lem k f z =
          makes os begin at o p g 1 None _ _ _ z (cluster_is (Withdrawn k) f) refl
          (sym (append-nil _ ∙ word_record begin (begin + length os) os whole all_text))

      pub all_flags_lem : (n : ℕ) → r ≡ AllFlags n → Puts o at p g n None (flag_words whole (first_letters name n)) → Out
      unfolding cluster_group cluster_items ambiguous_at
      all_flags_lem n f z =
          let cs = take n (characters d.all) in
          let size : length (flag_items os cs) ≡ n = flags_count os cs ∙ first_count n (omega (arith, counted (AllFlags n) f)) in
          makes os begin at o p g n None _ _ _ z (cluster_is (AllFlags n) f)
          (ap (λ (m : ℕ). record { count = m; ambiguous = None; marker = false }) (sym size))
          (flags_are n)

      pub ambiguous_letter_lem :
          (n : ℕ)
          → r ≡ Ambiguous n
          → Puts o at p g (n + 1) (Some n) (flag_words whole (first_letters name n) ++ record_of (Word whole))
          → Out
      unfolding cluster_group cluster_items ambiguous_at concat_map
      ambiguous_letter_lem n f z =
          let cs = take n (characters d.all) in
          let count = first_count n (omega (arith, counted (Ambiguous n) f)) in
          let size : n + 1 ≡ length (flag_items os cs ++ (rules.Word os ∷ [])) =
          omega (arith, length-append (flag_items os cs) (rules.Word os ∷ []), flags_count os cs) in
          makes os begin at o p g (n + 1) (Some n) _ _ _ z (cluster_is (Ambiguous n) f)
          (ap₂ (λ (m a : ℕ). record { count = m; ambiguous = Some a; marker = false }) size (sym count))
          (sym (concat_append (item_words begin (begin + length os)) (flag_items os cs) (rules.Word os ∷ [])
          ∙ ap₂ (λ (v w : List ℕ). v ++ w) (sym (flags_are n)) (append-nil _ ∙ word_record begin (begin + length os) os whole all_text)))

      module _ (n c k : ℕ) (f : r ≡ Argument n c k) where
        cs : List ℕ
        cs = take n (characters d.all)

        argument_count_lem : length cs ≡ n
        unfolding cs
        argument_count_lem = first_count n (omega (arith, (counted (Argument n c k) f).0))

        makes_argument :
            (m : ℕ) (w : List ℕ) (is : List rules.Item)
            → argument_items os c (drop k name) ≡ is
            → m ≡ n + length is
            → w ≡ concat_map (item_words begin (begin + length os)) is
            → Puts o at p g m None (flag_words whole (first_letters name n) ++ w)
            → Out
        unfolding cluster_group cluster_items ambiguous_at cs
        makes_argument m w is i size q z =
            makes os begin at o p g m None _ _ _ z (cluster_is (Argument n c k) f)
            (ap (λ (j : ℕ). record { count = j; ambiguous = None; marker = false })
            (let j : m ≡ length (flag_items os cs ++ argument_items os c (drop k name)) =
            omega (arith, length-append (flag_items os cs) (argument_items os c (drop k name)), ap length i, flags_count os cs, argument_count_lem) in j))
            (sym (concat_append (item_words begin (begin + length os)) (flag_items os cs) (argument_items os c (drop k name))
            ∙ ap₂ (λ (v w : List ℕ). v ++ w) (sym (flags_are n))
            (ap (concat_map (item_words begin (begin + length os))) i ∙ sym q)))

        pub argument_alone :
            k + 1 ≡ length os
            → Puts o at p g (n + 1) None (flag_words whole (first_letters name n) ++ record_of (Short c false whole))
            → Out
        unfolding argument_items concat_map
        argument_alone s z =
            let none = null_true (drop k name) (omega (arith, length-drop k name, bytes)) in
            makes_argument (n + 1) (record_of (Short c false whole)) (rules.Short c false os ∷ []) (rw none) refl
            (sym (append-nil _ ∙ short_record begin (begin + length os) os whole all_text c false)) z

        pub argument_rest :
            (value : Part)
            → (k + 1 ≡ length os → ⊥)
            → value ≡ part_of (begin + (k + 1)) (length os - (k + 1))
            → Puts o at p g (n + 2) None (flag_words whole (first_letters name n) ++ (record_of (Short c true whole) ++ record_of (Word value)))
            → Out
        unfolding argument_items concat_map
        argument_rest value s v z =
            let within = rest_within n c k f in
            let some = null_false (drop k name) (λ x. s (omega (arith, length-drop k name, bytes))) in
            let back : drop k name ≡ drop (k + 1) os = rw tail (drop-drop k 1 os ∙ ap (λ (j : ℕ). drop j os) (let j : 1 + k ≡ k + 1 = omega arith in j)) in
            makes_argument (n + 2) (record_of (Short c true whole) ++ record_of (Word value))
            (rules.Short c true os ∷ rules.Word (drop k name) ∷ []) (rw some) refl
            (sym (ap₂ (λ (a b : List ℕ). a ++ b) (short_record begin (begin + length os) os whole all_text c true)
            (append-nil _ ∙ word_record begin (begin + length os) (drop k name) value (rw back (text_from os begin (k + 1) value within v))))) z
