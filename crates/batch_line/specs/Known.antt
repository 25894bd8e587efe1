-- All of a form that does not depend on the sheet.
use Rattle.std.specs.Prelude.{List, ◌≡◌, ℕ}
use Rattle.rules.specs.Form.{read_form}
use Rattle.rules.specs.Accept.{Accepted, accepted, check_form, letters_of}
use Rattle.rules.specs.Split.{split_from}
use Rattle.form_codes.specs.Codes.{CodedNames}
use Rattle.split_arg.specs.Clusters.{letters}
use Rattle.split_arg.specs.Order.{CanLookUp}

-- an accepted form, the codes of its names, and letters by which every line is split as by those of the form
pub record FormKnown (form codes flags arguments : List ℕ) : Type 0 where
  pub result : Accepted
  pub accepts : check_form form ≡ accepted result
  pub coded : CodedNames form codes
  pub searchable : CanLookUp flags arguments
  pub alike : (args : List (List ℕ)) → split_from (letters flags arguments) 0 args ≡ split_from (letters_of (read_form form)) 0 args
