-- What a call looks for: the names of a flag or of an argument, or the name of a command.
use Rattle.std.specs.Prelude.{Bool, false, List, ◌≡◌, ℕ, ◌+◌, ◌≤◌, eqb, leb}
use Rattle.std.proofs.Math.Option.{Option, some, none}
use Rattle.std.proofs.Math.ListN.{get_elem?}
use Rattle.std.specs.Prelude.{if◌then◌else◌}
use Rattle.rules.specs.Base.{◌>>?◌}
use Rattle.rules.specs.Form.{name_count, read_form, name_bytes}
use Rattle.rules.specs.Tree.{Named}
use Rattle.rules.specs.Accept.{Accepted, accepted, check_form}
use Rattle.rules.specs.Calls.{flag_names, argument_key, key_of, Key as RulesKey}
use Rattle.form_codes.specs.Codes.{named_at}
use Rattle.call_form.specs.declared.Key.{Key}

abbrev pub key_names : List ℕ → Key → Named
key_names b r = named_at b r.names.first r.names.count

abbrev pub rules_key : List ℕ → Key → RulesKey
rules_key b r = record { named = key_names b r; adjacent = r.names.adjacent }

-- a key of `count` names from `first` on
abbrev pub key_with : ℕ → ℕ → ℕ → Bool → Key
key_with kind first count adjacent = record { kind = kind; names = record { first = first; count = count; adjacent = adjacent } }

abbrev pub no_key : Key
no_key = key_with 0 0 0 false

-- node k of an accepted form
pub record KeyAt (b : List ℕ) (a : Accepted) (k : ℕ) (r : Key) : Type 0 where
  pub inside : r.names.first + r.names.count ≤ name_count b
  pub flag : (get_elem? a.trees k >>? flag_names) ≡ (if eqb r.kind 1 then some (key_names b r) else none)
  pub argument : (get_elem? a.trees k >>? argument_key) ≡ (if eqb r.kind 2 then some (rules_key b r) else none)
  pub any : (get_elem? a.trees k >>? key_of) ≡ (if eqb r.kind 0 then none else some (rules_key b r))

pub record Keyed (b : List ℕ) (k : ℕ) (r : Key) : Type 0 where
  pub at : (a : Accepted) → check_form b ≡ accepted a → KeyAt b a k r

-- the short or long name of record k
unfoldable pub command_at : List ℕ → ℕ → Option (List ℕ)
command_at b k =
    get_elem? (read_form b).names k >>? λ x. if leb x.type 1 then some (name_bytes (read_form b).area x) else none
