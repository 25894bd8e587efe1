-- What is worked out once of an accepted form.
use mathlib.Core.List.{List}
use mathlib.Core.Path.{◌≡◌}
use Prim.Native.Nat.{ℕ, ◌-◌}
use lib.ListN.{take, replicate}
use Rattle.rules.specs.Accept.{Accepted, accepted, check_form}
use Rattle.form_layout.specs.Layout.{GoodNames}
use Rattle.form_layout.proofs.Sizes.{accepted_names}
use Rattle.form_codes.specs.Codes.{CodedNames}
use Rattle.form_letters.specs.Letters.{WroteLetters}
use Rattle.split_line.proofs.Lines.{scanned_letters, buffers_alike}
use Rattle.batch_line.specs.Known.{FormKnown}

module _ (form : List ℕ) (f : (a : Accepted) × (check_form form ≡ accepted a)) where
  pub good_names : GoodNames form
  good_names = accepted_names form f.0 f.1

  pub form_known :
      (codes : List ℕ)
      → CodedNames form codes
      → (o p : List ℕ) (n : ℕ) (q s : List ℕ) (m : ℕ)
      → o ≡ replicate 128 0
      → q ≡ replicate 128 0
      → WroteLetters form 1 o p n
      → WroteLetters form 2 q s m
      → FormKnown form codes (take (n - 0) p) (take (m - 0) s)
  form_known codes h o p n q s m zo zq wo wq = record {
    result = f.0;
    accepts = f.1;
    coded = h;
    searchable = scanned_letters form o p n q s m zo zq wo wq;
    alike = buffers_alike form f.0 f.1 o p n q s m zo zq wo wq;
  }
