-- What is handed back for the text of an answer word.
use Rattle.std.specs.Prelude.{List, [], ◌≡◌, ℕ, ◌+◌, ◌-◌, ◌≤◌, eqb, ltb, length, get_or, take, drop}
use Rattle.std.proofs.Math.Option.{Option, some, none}
use Rattle.std.proofs.Math.ListN.{get_elem?}
use Rattle.std.specs.Prelude.{if◌then◌else◌}
use Rattle.wire.specs.Wire.{area_start}
use Rattle.rules.specs.Base.{◌>>?◌}
use Rattle.rules.specs.Outcome.{Outcome, ok, refused, fault, ◌>>=◌}
use Rattle.rules.specs.Form.{area_at}
use Rattle.rules.specs.Sheet.{argument_count}
use Rattle.rules.specs.Accept.{Accepted}
use Rattle.rules.specs.Codes.{place_code, place_of}
use Rattle.rules.specs.Calls.{form_in, sheet_in, slice_in, items_in, asked, call_text}
use Rattle.split_arg.specs.Items.{record_at}
use Rattle.call_text.specs.declared.TextPart.{TextPart}

-- a text with the two numbers beside it, as the rules' outcome: number 0 is accepted
unfoldable pub text_says : ℕ → ℕ → List ℕ → Outcome (List ℕ)
text_says number place t =
    if eqb number 0 then ok t else refused (record { number = number; place = place_of place; missing = [] })

-- what the rules say; accepted, the place is 0, and refused, the text is empty
pub record TextOf (form sheet items : List ℕ) (word number place : ℕ) (t : List ℕ) : Type 0 where
  pub same : call_text form sheet items word ≡ text_says number place t
  pub accepted : number ≡ 0 → place ≡ 0
  pub refused : (number ≡ 0 → ⊥) → t ≡ []

-- ---- a text by its place
-- the slice: 0 the sheet, 1 the form
unfoldable pub source_of : List ℕ → List ℕ → ℕ → List ℕ
source_of form sheet source = if eqb source 0 then sheet else form

unfoldable pub part_text : List ℕ → List ℕ → TextPart → List ℕ
part_text form sheet r = take r.length (drop r.offset (source_of form sheet r.source))

abbrev pub refused_part : ℕ → ℕ → TextPart
refused_part number place = record { number = number; place = place; source = 0; offset = 0; length = 0 }

-- ---- the one part for each input
-- item i: words 5 and 6 of its record are an offset in the sheet's area and a length
unfoldable pub item_part : List ℕ → List ℕ → ℕ → TextPart
item_part sheet items i = record {
  number = 0;
  place = 0;
  source = 0;
  offset = area_start 2 (argument_count sheet) + get_or (record_at items i) 5 0;
  length = get_or (record_at items i) 6 0;
}

-- name record k, if its type is text: its offset in the form's area and its size
unfoldable pub record_part : List ℕ → Accepted → ℕ → Option TextPart
record_part form a k = get_elem? a.form.names k >>? λ x.
    if eqb x.type 2
    then some (record { number = 0; place = 0; source = 1; offset = area_at form + x.offset; length = x.size })
    else none

-- by the tests of `call_text`, in their order
unfoldable pub call_part : List ℕ → List ℕ → List ℕ → ℕ → Outcome TextPart
call_part form sheet items w = form_in form >>= λ a. sheet_in sheet >>= λ area. slice_in 1792 items >>= λ l.
    items_in area l >>= λ is.
    asked (if ltb w 256 then (get_elem? is w >>? λ _. some (item_part sheet items w)) else record_part form a (w - 256))

-- refused, the number and the place, and the rest is 0. A fault has none
abbrev pub part_told : Outcome TextPart → Option TextPart
part_told (ok r) = some r
part_told (refused e) = some (refused_part e.number (place_code e.place))
part_told (fault x) = none

-- it is the one part for its input, its bytes are the text, it lies in its slice, and refused, it is all 0
pub record PartOf (form sheet items : List ℕ) (word : ℕ) (r : TextPart) : Type 0 where
  pub text : TextOf form sheet items word r.number r.place (part_text form sheet r)
  pub source : r.number ≡ 0 → r.source ≡ (if ltb word 256 then 0 else 1)
  pub inside : r.offset + r.length ≤ length (source_of form sheet r.source)
  pub nothing : (r.number ≡ 0 → ⊥) → r ≡ refused_part r.number r.place
  pub exact : part_told (call_part form sheet items word) ≡ some r

-- ---- within one slice
pub record FindsText (l : List ℕ) (which : ℕ) (t : List ℕ) (p : Option TextPart) (r : TextPart) : Type 0 where
  pub number : r.number ≡ 0
  pub place : r.place ≡ 0
  pub source : r.source ≡ which
  pub inside : r.offset + r.length ≤ length l
  pub same : take r.length (drop r.offset l) ≡ t
  pub exact : p ≡ some r

-- where there is no text, 28
abbrev pub TellsText : List ℕ → ℕ → Option (List ℕ) → Option TextPart → TextPart → Type 0
TellsText l source none p r = (p ≡ none) × (r ≡ refused_part 28 0)
TellsText l source (some t) p r = FindsText l source t p r
