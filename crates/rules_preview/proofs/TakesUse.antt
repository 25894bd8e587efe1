-- What each take writes in a good state: nothing; one place; or two, one behind the other. All were present.
use mathlib.Core.Bool.{Bool, true, false}
use mathlib.Core.List.{List, [], ◌∷◌}
use mathlib.Core.Option.{Option, some, none, none-ne-some}
use mathlib.Core.Path.{◌≡◌, refl, ◌∙◌}
use Prim.Native.Nat.{ℕ, suc}
use native.Mathlib.Omega.{arith}
use lib.ListN.{length}
use Rattle.std.specs.Prelude.{if◌then◌else◌}
use Rattle.rules.specs.Outcome.{ok, ◌>>=◌}
use Rattle.rules.specs.Tree.{Named}
use Rattle.rules.specs.Split.{Item}
use Rattle.rules.specs.State.{State, Found, parsed, find, first, get, remove, with_current}
use Rattle.rules.specs.Take.{Took, took, Taken, Operand, matches_arg, take_flag, value_text, take_value, take_arg, is_operand, operand, take_positional_word, is_command, take_command}
use Rattle.rules.specs.Take.{take_cmd}
use Rattle.rules.specs.Calls.{operand_or20}
use Rattle.rules.specs.Sound.{Good}
use Rattle.rules.proofs.StepLaws.{Free, free_below_lem, Finds, find_good, removed, removed_good, removed_other, remove_free, get_free, current_good_lem}
use Rattle.rules.proofs.Turning.{Leaves}
use Rattle.rules_preview.specs.PreviewAnswered.{OneIf, KeyAndValue}
use Rattle.rules_preview.proofs.UsedLaws.{Written, nothing, one, two}

-- what a take that ended leaves: a mark was written at some places, of which Q says more
pub record Uses {A : Type 0} (Q : A → List ℕ → State → Type 0) (s : State) (t : Took A) : Type 0 where
  pub mark : ℕ
  pub told : parsed mark ≡ true
  pub places : List ℕ
  pub written : Written mark s.marks t.state.marks places
  pub more : Q t.answer places t.state

abbrev pub FlagPlaces : Bool → List ℕ → State → Type 0
FlagPlaces b l u = OneIf b l

abbrev pub ArgPlaces : Option Taken → List ℕ → State → Type 0
ArgPlaces t l u = KeyAndValue t l

abbrev pub WordPlaces : Operand → List ℕ → State → Type 0
WordPlaces o l u = l ≡ o.place ∷ []

abbrev pub CmdPlaces : Bool → List ℕ → State → Type 0
CmdPlaces true l u = length l ≡ 1
CmdPlaces false l u = (l ≡ []) × (u.current ≡ none)

module _ (k : ℕ) (told : parsed k ≡ true) (is : List Item) (s : State) (g : Good (length is) s) where
  still : {A : Type 0} (Q : A → List ℕ → State → Type 0) (a : A) → Q a [] s → Uses Q s (record { answer = a; state = s })
  still Q a q = record { mark = k; told = told; places = []; written = nothing; more = q }

  -- `current` is set, and then a free place is removed
  removed_at : (c : Option ℕ) (u : State) (i : ℕ) → Good (length is) u → Good (length is) (with_current c u) → Free u i → remove k (with_current c u) i ≡ ok (removed k u i)
  unfolding with_current
  removed_at c u i h good f =
      remove_free k told (length is) (with_current c u) i good (record { from = f.from; to = f.to; here = f.here })

  pub flag_uses : (m : Named) → Leaves (Uses FlagPlaces s) (take_flag k is m s)
  unfolding take_flag took ◌>>=◌
  flag_uses m = let f = find_good is (matches_arg m false) s g in go f.0 f.1 f.2
    where
      go : (x : Option Found) → find is (matches_arg m false) s ≡ ok x → Finds is (matches_arg m false) s x → Leaves (Uses FlagPlaces s) (take_flag k is m s)
      go none e h = rw e (still FlagPlaces false refl)
      go (some x) e h =
          rw (e, remove_free k told (length is) s x.place g h.free) (record {
            mark = k;
            told = told;
            places = x.place ∷ [];
            written = one x.place h.free.here;
            more = refl;
          })

  -- the value behind a key that was removed is still free
  next_free : (i : ℕ) → Free s i → Free s (suc i) → Free (removed k s i) (suc i)
  next_free i f n = record {
    from = n.from;
    to = n.to;
    here = removed_other k told (length is) s i g (suc i) (λ e. omega arith) ∙ n.here;
  }

  value_uses : (key : ℕ) (t : List ℕ) → Free s key → Free s (suc key) → Leaves (Uses ArgPlaces s) (take_value k s key (some t))
  unfolding take_value took ◌>>=◌
  value_uses key t f n =
      let first = removed_at (some (suc key)) s key g (current_good_lem (length is) s (suc key) g (free_below_lem (length is) s (suc key) g n)) f in
      let second = remove_free k told (length is) (removed k s key) (suc key) (removed_good k told (length is) s key g f) (next_free key f n) in
      rw (first, second) (record {
        mark = k;
        told = told;
        places = key ∷ suc key ∷ [];
        written = two key f.here n.here;
        more = (key, refl, refl);
      })

  pub arg_uses : (m : Named) (adjacent : Bool) → Leaves (Uses ArgPlaces s) (take_arg k is m adjacent s)
  unfolding take_arg take_value value_text took ◌>>=◌
  arg_uses m adjacent = let f = find_good is (matches_arg m adjacent) s g in go f.0 f.1 f.2
    where
      value : (i : ℕ) → Free s i → (y : Option Item) → get is s (suc i) ≡ y → (t : Option (List ℕ)) → value_text y ≡ t
          → Leaves (Uses ArgPlaces s) (take_value k s i (value_text (get is s (suc i))))
      value i f y w none v = rw (w, v) tt
      value i f none w (some t) v = absurd (none-ne-some t v)
      value i f (some y) w (some t) v = rw (w, v) (value_uses i t f (get_free is s (suc i) y w))

      go : (x : Option Found) → find is (matches_arg m adjacent) s ≡ ok x → Finds is (matches_arg m adjacent) s x → Leaves (Uses ArgPlaces s) (take_arg k is m adjacent s)
      go none e h = rw e (still ArgPlaces none refl)
      go (some x) e h = rw e (value x.place h.free (get is s (suc x.place)) refl (value_text (get is s (suc x.place))) refl)

  pub positional_uses : Leaves (Uses WordPlaces s) (take_positional_word k is s >>= operand_or20)
  unfolding take_positional_word operand_or20 operand took ◌>>=◌
  positional_uses = let f = find_good is is_operand s g in go f.0 f.1 f.2
    where
      go : (x : Option Found) → find is is_operand s ≡ ok x → Finds is is_operand s x → Leaves (Uses WordPlaces s) (take_positional_word k is s >>= operand_or20)
      go none e h = rw e tt
      go (some x) e h =
          let i : ℕ = x.place in
          let r = removed_at (some i) s i g (current_good_lem (length is) s i g (free_below_lem (length is) s i g h.free)) h.free in
          rw (e, r) (record { mark = k; told = told; places = i ∷ []; written = one i h.free.here; more = refl })

  pub cmd_uses : (word : List ℕ) → Leaves (Uses CmdPlaces s) (take_cmd k is word s)
  unfolding take_cmd take_command is_command first took with_current ◌>>=◌
  cmd_uses word = let f = find_good is (λ _. true) s g in go f.0 f.1 f.2
    where
      not_taken : Uses CmdPlaces s (record { answer = false; state = with_current none s })
      not_taken = record { mark = k; told = told; places = []; written = nothing; more = (refl, refl) }

      named : (x : Found) → Free s x.place → (b : Bool) → Leaves (Uses CmdPlaces s) (take_command k s (if b then some x else none))
      named x f false = not_taken
      named x f true =
          rw (remove_free k told (length is) s x.place g f) (record {
            mark = k;
            told = told;
            places = x.place ∷ [];
            written = one x.place f.here;
            more = refl;
          })

      go : (x : Option Found) → find is (λ _. true) s ≡ ok x → Finds is (λ _. true) s x → Leaves (Uses CmdPlaces s) (take_cmd k is word s)
      go none e h = rw e not_taken
      go (some x) e h = rw e (named x h.free (is_command word (some x)))
