-- What the functions of the search say: how it starts, one record, and how it ends.
use Rattle.std.specs.Prelude.{Bool, true, ◌&&◌, List, [], ◌∷◌, ◌≡◌, ℕ, suc, ◌+◌, ◌-◌, ◌<◌, eqb, leb, ltb, length}
use Rattle.std.specs.Prelude.{Result, Ok, Err}
use Rattle.std.proofs.Math.Option.{Option, some, none}
use Rattle.std.specs.Prelude.{if◌then◌else◌}
use Rattle.rules.specs.Outcome.{Outcome, ok, refused, refuse, Refusal, ◌>>=◌}
use Rattle.rules.specs.Codes.{place_code}
use Rattle.rules.specs.Sheet.{sheet_area, sheet_fault}
use Rattle.rules.specs.Split.{Item}
use Rattle.rules.specs.Tree.{zeros}
use Rattle.rules.specs.State.{present_at}
use Rattle.rules.specs.Accept.{Accepted, accepted, check_form}
use Rattle.rules.specs.Take.{matches_arg}
use Rattle.rules.specs.Calls.{form_in, sheet_in, item_from, state_in}
use Rattle.rules.specs.Reported.{number_of, place_told}
use Rattle.rules.specs.declared.RefusedAt.{RefusedAt}
use Rattle.rules.specs.declared.State.{State as Raw}
use Rattle.take_search.specs.Search.{HasNames}
use Rattle.call_form.specs.Keys.{key_names, KeyAt}
use Rattle.call_answers.specs.Answers.{place_or_none, plain_answer}
use Rattle.call_answers.specs.declared.Answer.{Answer}
use Rattle.call_find.specs.Records.{words_of}
use Rattle.call_find.specs.declared.ItemRecord.{ItemRecord}
use Rattle.call_find.specs.declared.Search.{Search}
use Rattle.call_find.specs.declared.Seen.{Seen}

-- ---- the start: 1 to 4, then 6 and 5
pub record StartRefused (form sheet : List ℕ) (e : RefusedAt) : Type 0 where
  pub refusal : Refusal
  pub same : (form_in form >>= λ _. sheet_in sheet) ≡ refused refusal
  pub number : number_of e.refusal ≡ refusal.number
  pub place : place_told e.place ≡ place_code refusal.place
  pub small : place_told e.place < 4294967296

-- the number of fields, the names of the node, and what the matching asks
pub record StartReady (form sheet : List ℕ) (k : ℕ) (g : Search) : Type 0 where
  pub result : Accepted
  pub accepts : check_form form ≡ accepted result
  pub fields : g.fields ≡ length result.fields
  pub key : KeyAt form result k g.key
  pub names : HasNames form g.codes g.key.names.first g.key.names.count
  pub made : sheet_fault sheet ≡ 0
  pub area : length (sheet_area sheet) ≡ g.area

abbrev pub Started : List ℕ → List ℕ → ℕ → Result Search RefusedAt → Type 0
Started form sheet k (Ok g) = StartReady form sheet k g
Started form sheet k (Err e) = StartRefused form sheet e

-- what one record needs of the start
pub record CanMatch (form sheet : List ℕ) (g : Search) : Type 0 where
  pub names : HasNames form g.codes g.key.names.first g.key.names.count
  pub made : sheet_fault sheet ≡ 0
  pub area : length (sheet_area sheet) ≡ g.area

-- ---- one record
-- a place that is present and in scope
unfoldable pub reached : Raw → ℕ → Bool
reached s i = leb s.start i && (ltb i s.end && present_at s.marks i)

pub record ReachedAt (s : Raw) (i : ℕ) (r : Bool) : Type 0 where
  pub same : r ≡ reached s i
  pub near : r ≡ true → i < 256

-- 0 is nothing yet, 1 a record that is no item, else the place plus 2
unfoldable pub marked : (Item → Bool) → ℕ → ℕ → Option Item → ℕ
marked test i c none = 1
marked test i c (some y) = if eqb c 0 then (if test y then i + 2 else 0) else c

abbrev pub sought : List ℕ → Search → Item → Bool
sought form g = matches_arg (key_names form g.key) g.key.names.adjacent

unfoldable pub judged : List ℕ → List ℕ → Raw → Search → ItemRecord → ℕ → ℕ → ℕ
judged form sheet s g x i c = marked (λ y. reached s i && sought form g y) i c (item_from (sheet_area sheet) (words_of x))

abbrev pub seen_to : ℕ → ℕ → Seen
seen_to c n = record { found = c; count = n }

abbrev pub unseen : Seen
unseen = seen_to 0 0

-- one that is all 0 is left out, and behind such a one none is an item
unfoldable pub turned : List ℕ → List ℕ → Raw → Search → ItemRecord → ℕ → Seen → Seen
turned form sheet s g x i c =
    if zeros (words_of x)
    then c
    else (if eqb c.count i then seen_to (judged form sheet s g x i c.found) (i + 1) else seen_to 1 (i + 1))

-- all records from place i on
unfoldable pub scan : List ℕ → List ℕ → Raw → Search → List ItemRecord → ℕ → Seen → Seen
scan form sheet s g [] i c = c
scan form sheet s g (x ∷ xs) i c = scan form sheet s g xs (suc i) (turned form sheet s g x i c)

-- ---- the end: 30, 29, 28
unfoldable pub place_from : ℕ → Option ℕ
place_from c = if eqb c 0 then none else some (c - 2)

unfoldable pub ended : Raw → ℕ → Search → ℕ → Outcome (Option ℕ)
ended s n g c =
    if eqb c 1
    then refused (refuse 30 none)
    else (state_in g.fields n s >>= λ _. if eqb g.key.kind 0 then refused (refuse 28 none) else ok (place_from c))

abbrev pub Finishes : Raw → Search → Seen → Answer → Type 0
Finishes s g c r = plain_answer place_or_none (ended s c.count g c.found) ≡ some r
