-- The loop that writes the flags' letters of a cluster.
use mathlib.Core.Path.{◌≡◌, refl, sym, ◌∙◌, ap}
use mathlib.Core.Bool.{true, false}
use mathlib.Core.List.{List, [], ◌++◌, append_assoc, append-nil}
use Prim.Native.Nat.{ℕ, suc, ◌+◌, ◌*◌, ◌≤◌, ◌<◌}
use native.Mathlib.Nat.{zero-add}
use native.Mathlib.Omega.{arith}
use lib.ListN.{length, take, drop, length-append}
use lib.Seq.{sets, length-sets}
use Rattle.utf8.specs.Utf8.{decode_at, well_formed}
use Rattle.utf8.specs.Laws.{character}
use Rattle.std.specs.Prelude.{Some, None}
use Rattle.utf8.specs.declared.Char.{Char}
use Rattle.rules.specs.Outcome.{ok}
use Rattle.rules.specs.Split.{Letter, cluster_from}
use Rattle.rules.proofs.SplitLaws.{cluster_ok}
use Rattle.split_arg.specs.declared.Part.{Part}
use Rattle.split_arg.specs.declared.Item.TheVariants.{Short}
use Rattle.split_arg.specs.Clusters.{characters}
use Rattle.split_arg.specs.Items.{nothing, record_of}
use Rattle.split_arg.proofs.LookUp.{letters_from, next, none_left}
use Rattle.split_group.specs.Groups.{letters_in, first_letters, flag_words, Flags}
use Rattle.split_group.proofs.Stores.{sets_behind}

pub letters_in_lem : (name : List ℕ) (ls : List Letter) → cluster_from 0 0 name ≡ ok ls → letters_in name ≡ ls
unfolding letters_in
letters_in_lem name ls e = rw (e, letters_in)

-- k letters are written, and the others begin at byte `place`
pub record WroteFlags (name : List ℕ) (count : ℕ) (whole : Part) (o₀ : List ℕ) (at : ℕ) (o : List ℕ) (text : Part) (place k : ℕ) : Type 0 where
  pub words : List ℕ
  pub left : List Letter
  pub further : letters_from name place ≡ ok left
  pub good : well_formed (drop place name) ≡ true
  pub within : place ≤ length name
  pub put : o ≡ sets o₀ (7 * at) words
  pub size : length words ≡ 7 * k
  pub same : (n : ℕ) → flag_words whole (first_letters name (k + n)) ≡ words ++ flag_words text (take n (characters left))
  pub letters : k + length left ≡ length (letters_in name)
  pub few : k ≤ count
  pub long : length o ≡ length o₀

pub wrote_none : (name : List ℕ) (count : ℕ) (whole : Part) (o : List ℕ) (at : ℕ) → Flags name count at → WroteFlags name count whole o at o whole 0 0
unfolding well_formed
wrote_none name count whole o at f =
    let ls = cluster_ok 0 0 name f.good in
    let e = letters_in_lem name ls.0 ls.1 in
    record {
      words = [];
      left = ls.0;
      further = ls.1;
      good = f.good;
      within = omega arith;
      put = refl;
      size = refl;
      same = λ n. rw (e, zero-add n);
      letters = rw e (zero-add (length ls.0));
      few = omega arith;
      long = refl;
    }

module _ (name : List ℕ) (count : ℕ) (whole : Part) (o₀ : List ℕ) (at : ℕ) (o : List ℕ) (text : Part) (place k : ℕ)
    (z : WroteFlags name count whole o₀ at o text place k) where
  pub wrote_more :
      (c : Char) (p : List ℕ)
      → decode_at name place ≡ Some c
      → k < count
      → p ≡ sets o (7 * (at + k)) (record_of (Short c.value false text))
      → WroteFlags name count whole o₀ at p nothing (place + c.size) (k + 1)
  unfolding flag_words characters
  wrote_more c p e h q =
      let x = next name z.left place z.further z.good c e in
      let w = record_of (Short c.value false text) in
      let size = z.size in
      let put = sets_behind o₀ o p z.words w at k z.put size q in
      record {
        words = z.words ++ w;
        left = x.later;
        further = x.further;
        good = x.good;
        within = (character name place c e).within;
        put = put;
        size = omega (arith, length-append z.words w);
        same = λ m.
            let j : k + 1 + m ≡ k + suc m = omega arith in
            ap (λ (i : ℕ). flag_words whole (first_letters name i)) j
            ∙ z.same (suc m)
            ∙ ap (λ (ls : List Letter). z.words ++ flag_words text (take (suc m) (characters ls))) x.first
            ∙ sym (append_assoc z.words w (flag_words nothing (take m (characters x.later))));
        letters = omega (arith, z.letters, ap length x.first);
        few = omega arith;
        long = ap length put ∙ length-sets o₀ (7 * at) (z.words ++ w);
      }

  pub wrote_all : count ≤ k → o ≡ sets o₀ (7 * at) (flag_words whole (first_letters name count))
  unfolding flag_words
  wrote_all h =
      let few = z.few in
      let j : count ≡ k + 0 = omega arith in
      let all : flag_words whole (first_letters name (k + 0)) ≡ z.words = z.same 0 ∙ append-nil z.words in
      z.put ∙ rw (j, all)

  -- a letter is there as long as there is one to write
  pub letter_there : {A : Type 0} → count ≤ length (letters_in name) → k < count → decode_at name place ≡ None → A
  letter_there f h e =
      absurd (omega (arith, z.letters, ap length (none_left name z.left place z.further z.good z.within e)))
