-- How an evaluation ends: a value, a refusal, or a fault.
use Rattle.std.specs.Prelude.{Bool, List, [], ◌∷◌, ◌++◌, ℕ, suc, eqb}
use Rattle.std.proofs.Math.Option.{Option, some, none}
use Rattle.std.specs.Prelude.{if◌then◌else◌}
use Rattle.rules.specs.Base.{contains, concat_map}

-- Spots where the Rust would panic: the function, and the line of its file.
pub data Spot : Type 0 where
  -- arg.rs
  split_os_argument185 : Spot
  -- args.rs
  disambiguate_short207 construct361 construct390 construct391 : Spot
  remove431 remove433 remove434 adjacent_scope506 adjacent_scope508 set_scope561 args_iter635 : Spot
  -- error.rs
  only_once282 only_once288 : Spot
  -- item.rs
  short_long125 short_long126 short_long127 : Spot
  -- params.rs
  parse_flag559 take_argument679 : Spot
  -- structs.rs
  or_else305 or_else307 : Spot

-- What demand 3 excludes: a panic, a value that is not of its node's kind, a repeat that does not end
pub data Fault : Type 0 where
  panic : Spot → Fault
  wrong_kind endless : Fault

-- The Rust's MissingItem: the node that looked in vain, and the scope it looked in
pub record MissingItem : Type 0 where
  pub node : ℕ
  pub start : ℕ
  pub end : ℕ

-- its three words in the list: node plus 1, scope start, scope end
unfoldable pub entry_words : MissingItem → List ℕ
entry_words x = suc x.node ∷ x.start ∷ x.end ∷ []

unfoldable pub list_words : List MissingItem → List ℕ
list_words l = concat_map entry_words l

-- The Rust's Message, by document 01's number
pub record Refusal : Type 0 where
  pub number : ℕ
  pub place : Option ℕ
  pub missing : List MissingItem

pub data Outcome (A : Type 0) : Type 0 where
  ok : A → Outcome A
  refused : Refusal → Outcome A
  fault : Fault → Outcome A

infixl 20 ◌>>=◌
unfoldable pub ◌>>=◌ : {A B : Type 0} → Outcome A → (A → Outcome B) → Outcome B
ok a >>= f = f a
refused e >>= f = refused e
fault x >>= f = fault x

-- what a lookup or a difference gives; none is a panic
unfoldable pub at : {A : Type 0} → Spot → Option A → Outcome A
at spot none = fault (panic spot)
at spot (some a) = ok a

-- a refusal, by its number and its place
abbrev pub refuse : ℕ → Option ℕ → Refusal
refuse n place = record { number = n; place = place; missing = [] }

-- 20 Missing
unfoldable pub is_missing : Refusal → Bool
is_missing e = eqb e.number 20

-- `can_catch`: Missing, ParseSome, NonStrictPos
unfoldable pub can_catch : Refusal → Bool
can_catch e = contains (20 ∷ 21 ∷ 24 ∷ []) e.number

-- `wrong_input`: Ambiguity, NoArgument, StrictPos, NonStrictPos, Unconsumed
unfoldable pub wrong_input : Refusal → Bool
wrong_input e = contains (9 ∷ 22 ∷ 23 ∷ 24 ∷ 27 ∷ []) e.number

-- `combine_with`
unfoldable pub combine_with : Refusal → Refusal → Refusal
combine_with a b =
    if is_missing a
    then (if is_missing b then record { number = 20; place = none; missing = a.missing ++ b.missing } else b)
    else (if can_catch a then b else a)
