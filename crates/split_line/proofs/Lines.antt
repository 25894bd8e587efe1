-- The letters of a form, in two buffers, are all that splitting asks of it.
use mathlib.Core.List.{List}
use mathlib.Core.Path.{◌≡◌, ap, ◌∙◌}
use Prim.Native.Nat.{ℕ, ◌-◌}
use native.Mathlib.Omega.{arith}
use lib.ListN.{length, replicate, take, length-replicate}
use lib.Seq.{length-sets}
use native.Mathlib.Nat.{sub-zero}
use Rattle.rules.specs.Sheet.{arguments}
use Rattle.rules.specs.Form.{read_form}
use Rattle.rules.specs.Accept.{Accepted, accepted, check_form, Letters, letters_of}
use Rattle.rules.specs.Split.{split_from}
use Rattle.form_layout.specs.Layout.{GoodNames}
use Rattle.split_args.specs.declared.Ended.{Ended}
use Rattle.split_args.specs.Construct.{SplitEnds}
use Rattle.split_arg.specs.Clusters.{letters}
use Rattle.split_arg.specs.Order.{CanLookUp}
use Rattle.split_arg.proofs.Order.{part_searchable}
use Rattle.form_letters.specs.Letters.{letters_by_name, WroteLetters}
use Rattle.form_letters.proofs.Order.{same_letters}
use Rattle.form_layout.proofs.Sizes.{accepted_names}
use Rattle.rules.proofs.LetterLaws.{split_same}
use Rattle.split_args.proofs.Plain.{alike_ends}
use Rattle.form_letters.proofs.Words.{letters_taken}
use Rattle.split_line.specs.Input.{Splittable}

pub splittable_names : (form sheet items : List ℕ) → Splittable form sheet items → GoodNames form
splittable_names form sheet items r = accepted_names form r.result r.accepts

-- a buffer holds so few letters that they are scanned
pub scanned_letters :
    (form : List ℕ) (o p : List ℕ) (n : ℕ) (q s : List ℕ) (m : ℕ)
    → o ≡ replicate 128 0
    → q ≡ replicate 128 0
    → WroteLetters form 1 o p n
    → WroteLetters form 2 q s m
    → CanLookUp (take (n - 0) p) (take (m - 0) s)
scanned_letters form o p n q s m zo zq wo wq = record {
  in_flags = part_searchable (n - 0) p (omega (arith, long 1 o p n zo wo));
  in_arguments = part_searchable (m - 0) s (omega (arith, long 2 q s m zq wq));
}
  where
    long : (kind : ℕ) (o p : List ℕ) (n : ℕ) → o ≡ replicate 128 0 → WroteLetters form kind o p n → length p ≡ 128
    long kind o p n z w =
        ap length w.words ∙ length-sets o 0 (letters_by_name (read_form form) kind) ∙ ap length z ∙ length-replicate {A = ℕ} 128 0

-- the letters of both buffers are those of the form, in another order
pub buffers_alike :
    (form : List ℕ) (a : Accepted)
    → check_form form ≡ accepted a
    → (o p : List ℕ) (n : ℕ) (q s : List ℕ) (m : ℕ)
    → o ≡ replicate 128 0
    → q ≡ replicate 128 0
    → WroteLetters form 1 o p n
    → WroteLetters form 2 q s m
    → (args : List (List ℕ))
    → split_from (letters (take (n - 0) p) (take (m - 0) s)) 0 args ≡ split_from (letters_of (read_form form)) 0 args
buffers_alike form a e o p n q s m zo zq wo wq args =
    let names = accepted_names form a e in
    let l : Letters = letters (letters_by_name (read_form form) 1) (letters_by_name (read_form form) 2) in
    let flags = ap (λ (j : ℕ). take j p) (sub-zero n) ∙ letters_taken form 1 o p n names zo wo in
    let others = ap (λ (j : ℕ). take j s) (sub-zero m) ∙ letters_taken form 2 q s m names zq wq in
    rw (flags, others) (split_same l (letters_of (read_form form)) (same_letters form a e) 0 args)

pub split_letters :
    (form sheet items : List ℕ) (o p : List ℕ) (n : ℕ) (q s : List ℕ) (m : ℕ) (k : ℕ) (out : List ℕ) (r : Ended)
    → Splittable form sheet items
    → o ≡ replicate 128 0
    → q ≡ replicate 128 0
    → WroteLetters form 1 o p n
    → WroteLetters form 2 q s m
    → SplitEnds (letters (take (n - 0) p) (take (m - 0) s)) sheet k out r
    → SplitEnds (letters_of (read_form form)) sheet k out r
split_letters form sheet items o p n q s m k out r g zo zq wo wq =
    alike_ends (letters (take (n - 0) p) (take (m - 0) s)) (letters_of (read_form form)) sheet k out r
    (buffers_alike form g.result g.accepts o p n q s m zo zq wo wq (arguments sheet))
