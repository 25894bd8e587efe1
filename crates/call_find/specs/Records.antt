-- The search over records: what it is refused with (1 to 6, then 30, 29, 28) and what it finds.
use Rattle.std.specs.Prelude.{List, [], ◌∷◌, map, ℕ, length}
use Rattle.std.proofs.Math.Option.{Option, some, none}
use Rattle.std.proofs.Math.ListN.{get_elem?}
use Rattle.rules.specs.Base.{◌>>?◌}
use Rattle.rules.specs.Outcome.{Outcome, ok, refused, refuse, ◌>>=◌}
use Rattle.rules.specs.Split.{Item}
use Rattle.rules.specs.State.{Found, find}
use Rattle.rules.specs.Take.{matches_arg}
use Rattle.rules.specs.Calls.{form_in, sheet_in, trimmed, items_from, state_in, asked, key_of}
use Rattle.rules.specs.declared.State.{State as Raw}
use Rattle.call_find.specs.declared.ItemRecord.{ItemRecord}

-- the seven words of a record
abbrev pub words_of : ItemRecord → List ℕ
words_of x =
    x.kind ∷ x.adjacent ∷ x.character ∷ x.name_offset ∷ x.name_length ∷ x.text_offset ∷ x.text_length ∷ []

-- 30: a record that is no item, up to the last that is not all 0
unfoldable pub items_or30 : Option (List Item) → Outcome (List Item)
items_or30 none = refused (refuse 30 none)
items_or30 (some is) = ok is

unfoldable pub record_items : List ℕ → List ItemRecord → Outcome (List Item)
record_items area xs = items_or30 (items_from area (trimmed (map words_of xs)))

unfoldable pub place_of : Option Found → Option ℕ
place_of none = none
place_of (some f) = some f.place

unfoldable pub call_find : List ℕ → List ℕ → List ItemRecord → Raw → ℕ → Outcome (Option ℕ)
call_find form sheet xs x k = form_in form >>= λ a. sheet_in sheet >>= λ area. record_items area xs >>= λ is.
    state_in (length a.fields) (length is) x >>= λ u. asked (get_elem? a.trees k >>? key_of) >>= λ m.
    find is (matches_arg m.named m.adjacent) u >>= λ f. ok (place_of f)
