-- Numbers for what is handed out: a place, a refusal, a kind.
use Rattle.std.proofs.Math.Option.{Option, some, none}
use Rattle.std.specs.Prelude.{ℕ, zero, suc, ◌+◌}
use Rattle.rules.specs.Value.{Base, yes_no, text, number, Kind, one, optional, list, list_of_optional, optional_list}
use Rattle.rules.specs.Accept.{Checked, accepted, refused_at}
use Rattle.rules.specs.declared.Refused.{Refused}

-- a place is itself plus 1, or 0 for none
abbrev pub place_code : Option ℕ → ℕ
place_code none = 0
place_code (some i) = suc i

-- and back
unfoldable pub place_of : ℕ → Option ℕ
place_of zero = none
place_of (suc i) = some i

-- 0 is accepted
abbrev pub check_code : {A : Type 0} → Checked A → Refused
check_code (accepted a) = record { number = 0; place = 0 }
check_code (refused_at n k) = record { number = n; place = place_code k }

-- 1 yes/no, 2 text, 3 number; 3 more for an optional, 6 for a list, 9 for a list of optionals, 12 for an optional list
unfoldable pub base_code : Base → ℕ
base_code yes_no = 1
base_code text = 2
base_code number = 3

unfoldable pub kind_code : Kind → ℕ
kind_code (one b) = base_code b
kind_code (optional b) = 3 + base_code b
kind_code (list b) = 6 + base_code b
kind_code (list_of_optional b) = 9 + base_code b
kind_code (optional_list b) = 12 + base_code b
