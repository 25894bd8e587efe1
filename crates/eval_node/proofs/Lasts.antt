-- `count` and `last`, from what their repeat answered.
use mathlib.Core.Bool.{Bool, true, false, false≢true}
use mathlib.Core.List.{List, [], ◌∷◌}
use mathlib.Core.Option.{some}
use mathlib.Core.Path.{◌≡◌, refl, sym, ◌∙◌, ap, subst}
use Prim.Native.Nat.{ℕ, ◌+◌, ◌≤◌, ◌<◌}
use native.Mathlib.Nat.{le_refl}
use native.Mathlib.Omega.{arith}
use lib.ListN.{length}
use Rattle.rules.specs.Outcome.{Outcome, ok, refused, fault}
use Rattle.rules.specs.Value.{Value}
use Rattle.rules.specs.Sheet.{sheet_area}
use Rattle.rules.specs.Tree.{Tree, Count, Last, has_repeat}
use Rattle.rules.specs.Split.{Item}
use Rattle.rules.specs.State.{State, parsed}
use Rattle.rules.specs.Eval.{Ran as Run, repeated, eval_count, eval_last, eval}
use Rattle.rules.specs.Sound.{Good, Sound, leaves}
use Rattle.rules.proofs.EvalSound.{sound_count, sound_last, Any, eval_went}
use Rattle.rules.proofs.Repeats.{Listed, repeated_went}
use Rattle.rules.proofs.Steps.{most}
use Rattle.rules.proofs.Went.{Fine, Went, went_weaker, went_cost}
use Rattle.state_marks.specs.declared.Numbers.{Numbers}
use Rattle.state_marks.specs.Lent.{state_of}
use Rattle.take_search.specs.States.{CanTake, LeftState, Items}
use Rattle.eval_told.specs.declared.Ran.{Ran}
use Rattle.eval_told.specs.Told.{told, Numbered, scalar_words, answered}
use Rattle.eval_told.specs.Nodes.{tree_at}
use Rattle.eval_shortcut.specs.Stands.{Scalar}
use Rattle.eval_told.specs.Lists.{told_list}
use Rattle.eval_told.proofs.ListLaws.{list_told, count_value, count_refused, last_refused, last_again, last_value_lem}
use Rattle.eval_shortcut.specs.Children.{Wraps, Wrapped}
use Rattle.eval_shortcut.proofs.Trees.{sound_at}
use Rattle.eval_shortcut.specs.Children.{NodeSays}
use Rattle.eval_shortcut.proofs.Steps.{inside, wrapped, child_told, child_left, child_tries}
use Rattle.eval_told.specs.Results.{more_tries}
use Rattle.eval_words.specs.declared.Repeated.{Repeated}
use Rattle.eval_words.specs.Values.{denied_list, counted_values, last_value}
use Rattle.eval_node.specs.Cycle.{counting, listed, Repeating, Repeats}

-- ---- a repeat's refusal has a number
fine_numbered : {A : Type 0} (h : ℕ) (P : A → Type 0) (o : Outcome A) → Fine h P o → Numbered o
fine_numbered h P (ok v) f = tt
fine_numbered h P (refused e) f = λ z. omega (arith, f.0)
fine_numbered h P (fault x) f = tt

pub repeated_numbered :
    (mark : ℕ) (is : List Item) (t : Tree) (s : State) (catch stops : Bool)
    → parsed mark ≡ true
    → Sound t
    → has_repeat t ≡ false
    → Good (length is) s
    → Numbered (repeated catch stops (eval mark is t) s).outcome
unfolding most
repeated_numbered mark is t s catch stops told sound flat good =
    fine_numbered 26 (Listed (λ v. Unit {0}) (s.remaining + 1)) (repeated catch stops (eval mark is t) s).outcome
    (repeated_went Any (length is) (λ v. Unit {0}) (leaves t) s.remaining catch stops (eval mark is t) child s good (le_refl _)).ends
  where
    child : (u : State) → Good (length is) u → u.remaining ≤ s.remaining → Went Any (length is) 26 (λ v. Unit {0}) u (leaves t) (eval mark is t u)
    child u g l = went_cost (rw flat (le_refl (leaves t))) (went_weaker (le_refl 26) (λ v f. tt) (eval_went mark told is t sound u g).went)

module _
    (b known s ws m : List ℕ)
    (p : Numbers)
    (mark n : ℕ)
    (z : Scalar b known s ws m p mark n)
    (flat : has_repeat z.stands.tree ≡ false)
  where
    -- nothing is written
    abbrev pub repeat_asks : (o : List ℕ) → Repeating b known s ws m p mark (counting n) o
    repeat_asks o = record { below = z; flat = flat; space = λ e. absurd (false≢true e) }

    module _
        (m' o o' : List ℕ)
        (all : Repeated)
        (f : (t : Tree) → tree_at b n ≡ some t → Repeats mark (sheet_area s) ws t (counting n) m p m' o o' all)
      where
        abbrev tree : Tree
        tree = z.stands.tree

        abbrev answer : Repeats mark (sheet_area s) ws tree (counting n) m p m' o o' all
        answer = f tree z.stands.node

        module _ (is : List Item) (i : Items (sheet_area s) ws p is) where
          abbrev run : State → Run Value
          run = eval mark is tree

          numbered : Numbered (repeated false true run (state_of m p)).outcome
          numbered =
              repeated_numbered mark is tree (state_of m p) false true z.stands.state.told (sound_at b n tree z.stands.node) flat
              (subst (λ (k : ℕ). Good k (state_of m p)) (sym i.1) z.stands.state.fine.good)

          tells : told_list (repeated false true run (state_of m p)) ≡ some (listed all m' answer.values)
          tells = answer.same is i

          count_denied : (all.number ≡ 0 → ⊥) → told (eval_count run (state_of m p)) ≡ some (answered (denied_list all) m')
          unfolding scalar_words
          count_denied e = count_refused run (state_of m p) (listed all m' answer.values) tells numbered e

          count_counted : all.number ≡ 0 → told (eval_count run (state_of m p)) ≡ some (answered (counted_values all) m')
          unfolding scalar_words
          count_counted e =
              count_value run (state_of m p) (listed all m' answer.values) tells numbered e
              ∙ ap (λ (k : ℕ). some (list_told (listed all m' answer.values) (k ∷ []))) (sym answer.count)

          last_denied : (all.number ≡ 0 → ⊥) → told (eval_last run (state_of m p)) ≡ some (answered (denied_list all) m')
          unfolding scalar_words
          last_denied e = last_refused run (state_of m p) (listed all m' answer.values) tells numbered e

          last_there : all.number ≡ 0 → (all.count ≡ 0 → ⊥) → told (eval_last run (state_of m p)) ≡ some (answered (last_value all) m')
          last_there e c =
              last_value_lem run (state_of m p) (listed all m' answer.values) tells numbered e (λ k. c (answer.count ∙ k))
              ∙ ap (λ (w : List ℕ). some (list_told (listed all m' answer.values) w)) answer.last

        -- the state that the repeat left
        abbrev after_ready : CanTake (sheet_area s) ws m' all.numbers mark
        after_ready = record {
          items = z.stands.state.items;
          table = z.stands.state.table;
          same = z.stands.state.same ∙ sym answer.left.count;
          fine = answer.left.fine;
          told = z.stands.state.told;
        }

        abbrev pub last_ready : Scalar b known s ws m' all.numbers mark n
        last_ready = record {
          stands = record {
            tree = tree;
            node = z.stands.node;
            light = z.stands.light;
            made = z.stands.made;
            state = after_ready;
            knows = z.stands.knows;
          };
          scalar = z.scalar;
        }

        module _ (m'' : List ℕ) (ran : Ran) (said : NodeSays b s ws m' all.numbers mark n m'' ran) where
          pub last_fits : all.tries + ran.tries < 4294967296
          last_fits =
              let h = child_tries b known s ws m' all.numbers mark n last_ready m'' ran said in
              omega (arith, answer.cost)

          last_tried :
              (is : List Item)
              → Items (sheet_area s) ws p is
              → all.number ≡ 0
              → all.count ≡ 0
              → told (eval_last (eval mark is tree) (state_of m p)) ≡ some (answered (more_tries ran all.tries) m'')
          last_tried is i e c =
              last_again (eval mark is tree) (state_of m p) (listed all m' answer.values) (tells is i) (numbered is i) (answered ran m'') e
              (sym answer.count ∙ c)
              (child_told b known s ws m' all.numbers mark n last_ready m'' ran said is (i.0, i.1 ∙ sym answer.left.count))

          last_left : LeftState m p m'' ran.numbers
          last_left =
              let l = child_left b known s ws m' all.numbers mark n last_ready m'' ran said in
              record { count = l.count ∙ answer.left.count; long = l.long ∙ answer.left.long; fine = l.fine }

-- ---- count
module _ (b known s ws m : List ℕ) (p : Numbers) (mark n : ℕ) (z : Wraps Count b known s ws m p mark n) where
  count_flat : has_repeat z.below.stands.tree ≡ false
  count_flat = (sound_count z.below.stands.tree z.sound).flat

  pub count_asks : (o : List ℕ) → Repeating b known s ws m p mark (counting n) o
  count_asks = repeat_asks b known s ws m p mark n z.below count_flat

  module _
      (m' o o' : List ℕ)
      (all : Repeated)
      (f : (t : Tree) → tree_at b n ≡ some t → Repeats mark (sheet_area s) ws t (counting n) m p m' o o' all)
      (r : Ran)
    where
      count_wraps :
          ((is : List Item) → Items (sheet_area s) ws p is → told (eval_count (eval mark is z.below.stands.tree) (state_of m p)) ≡ some (answered r m'))
          → r.numbers ≡ all.numbers
          → Wrapped Count mark b s ws n m p m' r
      unfolding eval
      count_wraps h q =
          let t = z.below.stands.tree in
          wrapped Count b s ws n m p mark m' r t z.below.stands.node
          (record {
            same = λ is i.
                inside mark (sheet_area s) ws m p z.below.stands.state (Count t) z.sound is i (eval_count (eval mark is t) (state_of m p)) refl
                ∙ h is i;
            left = rw q (f t z.below.stands.node).left;
          })

      pub count_refuses : (all.number ≡ 0 → ⊥) → r ≡ denied_list all → Wrapped Count mark b s ws n m p m' r
      count_refuses e q =
          count_wraps
          (λ is i. rw q (count_denied b known s ws m p mark n z.below count_flat m' o o' all f is i e))
          (ap (λ (x : Ran). x.numbers) q)

      pub count_ends : all.number ≡ 0 → r ≡ counted_values all → Wrapped Count mark b s ws n m p m' r
      count_ends e q =
          count_wraps
          (λ is i. rw q (count_counted b known s ws m p mark n z.below count_flat m' o o' all f is i e))
          (ap (λ (x : Ran). x.numbers) q)

-- ---- last
module _ (b known s ws m : List ℕ) (p : Numbers) (mark n : ℕ) (z : Wraps Last b known s ws m p mark n) where
  last_flat : has_repeat z.below.stands.tree ≡ false
  last_flat = (sound_last z.below.stands.tree z.sound).flat

  pub last_asks : (o : List ℕ) → Repeating b known s ws m p mark (counting n) o
  last_asks = repeat_asks b known s ws m p mark n z.below last_flat

  module _
      (m' o o' : List ℕ)
      (all : Repeated)
      (f : (t : Tree) → tree_at b n ≡ some t → Repeats mark (sheet_area s) ws t (counting n) m p m' o o' all)
    where
      last_wraps :
          (m'' : List ℕ) (r : Ran)
          → ((is : List Item) → Items (sheet_area s) ws p is → told (eval_last (eval mark is z.below.stands.tree) (state_of m p)) ≡ some (answered r m''))
          → LeftState m p m'' r.numbers
          → Wrapped Last mark b s ws n m p m'' r
      unfolding eval
      last_wraps m'' r h l =
          let t = z.below.stands.tree in
          wrapped Last b s ws n m p mark m'' r t z.below.stands.node
          (record {
            same = λ is i.
                inside mark (sheet_area s) ws m p z.below.stands.state (Last t) z.sound is i (eval_last (eval mark is t) (state_of m p)) refl
                ∙ h is i;
            left = l;
          })

      pub last_refuses : (all.number ≡ 0 → ⊥) → (r : Ran) → r ≡ denied_list all → Wrapped Last mark b s ws n m p m' r
      last_refuses e r q =
          rw q
          (last_wraps m' (denied_list all)
          (λ is i. last_denied b known s ws m p mark n z.below last_flat m' o o' all f is i e)
          (f z.below.stands.tree z.below.stands.node).left)

      pub last_ends : all.number ≡ 0 → (all.count ≡ 0 → ⊥) → (r : Ran) → r ≡ last_value all → Wrapped Last mark b s ws n m p m' r
      last_ends e c r q =
          rw q
          (last_wraps m' (last_value all)
          (λ is i. last_there b known s ws m p mark n z.below last_flat m' o o' all f is i e c)
          (f z.below.stands.tree z.below.stands.node).left)

      pub again_ready : Scalar b known s ws m' all.numbers mark n
      again_ready = last_ready b known s ws m p mark n z.below last_flat m' o o' all f

      module _ (m'' : List ℕ) (ran : Ran) (said : NodeSays b s ws m' all.numbers mark n m'' ran) where
        pub again_fits : all.tries + ran.tries < 4294967296
        again_fits = last_fits b known s ws m p mark n z.below last_flat m' o o' all f m'' ran said

        pub again_ends : all.number ≡ 0 → all.count ≡ 0 → (r : Ran) → r ≡ more_tries ran all.tries → Wrapped Last mark b s ws n m p m'' r
        again_ends e c r q =
            rw q
            (last_wraps m'' (more_tries ran all.tries)
            (λ is i. last_tried b known s ws m p mark n z.below last_flat m' o o' all f m'' ran said is i e c)
            (last_left b known s ws m p mark n z.below last_flat m' o o' all f m'' ran said))
