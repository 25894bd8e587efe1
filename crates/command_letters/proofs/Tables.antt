-- The letters of the forms of a table, one form after the other, and the same lines split by them as by `table_letters`.
use mathlib.Core.Path.{◌≡◌, refl, sym, ap, ◌∙◌}
use mathlib.Core.Bool.{Bool, true, false, ◌||◌}
use mathlib.Core.List.{List, [], ◌∷◌}
use mathlib.Core.Option.{some-injective}
use Prim.Native.Nat.{ℕ, ◌+◌, ◌*◌, ◌-◌, ◌≤◌, ◌<◌}
use native.Mathlib.Nat.{sub-zero}
use native.Mathlib.Numerals.{add-one}
use native.Mathlib.Omega.{arith}
use lib.ListN.{length, take, drop, replicate, length-replicate, drop_of_length-le}
use lib.Seq.{sets, length-sets, length-take-le}
use Rattle.rules.specs.Base.{contains, concat_map}
use Rattle.rules.specs.Outcome.{ok}
use Rattle.rules.specs.Sheet.{arguments}
use Rattle.rules.specs.Form.{read_form}
use Rattle.rules.specs.Accept.{Accepted, accepted, check_form, Letters, letters_of}
use Rattle.rules.specs.Commands.{Command, entry_count, table_in, forms_in, table_letters}
use Rattle.rules.proofs.Acceptance.{accepted_passed}
use Rattle.rules.proofs.Places.{drop_below}
use Rattle.rules.proofs.SplitLaws.{ok_injective}
use Rattle.rules.proofs.LetterLaws.{SameLetters, split_same}
use Rattle.rules.proofs.CommandLaws.{forms_step, forms_at, table_flags, table_arguments}
use Rattle.form_layout.specs.Layout.{GoodNames}
use Rattle.form_layout.proofs.Sizes.{accepted_names}
use Rattle.form_letters.specs.Letters.{letters_by_name, WroteLetters}
use Rattle.form_letters.proofs.Order.{same_letters}
use Rattle.form_letters.proofs.Words.{letters_fit, letters_taken}
use Rattle.split_arg.specs.Clusters.{letters}
use Rattle.split_arg.specs.Order.{Searchable, CanLookUp}
use Rattle.split_arg.proofs.Order.{ordered_searchable}
use Rattle.split_args.specs.declared.Ended.{Ended}
use Rattle.split_args.specs.Construct.{SplitEnds}
use Rattle.split_args.proofs.Plain.{alike_ends}
use Rattle.command_layout.specs.Tables.{HasCommands, HasForms, FormOf}
use Rattle.rules.proofs.CommandForms.{commands_count}
use Rattle.command_layout.proofs.Entries.{good_offsets, table_offsets}
use Rattle.command_letters.specs.Gather.{put_all, gathered, HasRoom, Holds, Inserted, Gathered}
use Rattle.command_letters.proofs.Gathers.{holds_front, holds_room, holds_next, holds_long, all_contains, either_first}

-- ---- the letters of one form
few_letters : (b : List ℕ) (kind : ℕ) → GoodNames b → length (letters_by_name (read_form b) kind) ≤ 128
few_letters b kind g =
    let xs = letters_by_name (read_form b) kind in
    let o : List ℕ = replicate 128 0 in
    let fit = letters_fit b kind o (sets o 0 xs) (length xs) g refl (record { words = refl; count = refl }) in
    omega (arith, fit, length-sets o 0 xs, length-replicate {A = ℕ} 128 0)

-- a buffer of 128 words that holds them
module _ (b : List ℕ) (kind : ℕ) (o p : List ℕ) (n : ℕ) (g : GoodNames b) (z : o ≡ replicate 128 0) (w : WroteLetters b kind o p n) where
  taken : take n p ≡ letters_by_name (read_form b) kind
  taken = letters_taken b kind o p n g z w

  pub its_count : n ≡ length (take n p)
  its_count = sym (length-take-le n p (letters_fit b kind o p n g z w))

  module _ (q : List ℕ) (m : ℕ) where
    pub its_room : HasRoom q m 128 → HasRoom q m (length (take n p))
    its_room h = rw taken (record { rising = h.rising; room = omega (arith, h.room, few_letters b kind g) })

    pub its_letters : (q' : List ℕ) (r : ℕ) → Inserted q m (take n p) q' r → Inserted q m (letters_by_name (read_form b) kind) q' r
    its_letters q' r h = rw taken at h

-- ---- the table
module _ (t : List ℕ) (h : HasForms t) where
  pub table_head : 2 ≤ length t
  table_head = omega (arith, (good_offsets t (table_offsets t h.commands h.reads)).long)

  pub table_read : HasCommands t
  table_read = record { commands = h.commands; reads = h.reads }

  -- 32 forms of 128 names each
  pub most_room : 128 * entry_count t ≤ 4096
  most_room = omega (arith, (good_offsets t (table_offsets t h.commands h.reads)).most)

  pub all_room : (o : List ℕ) → o ≡ replicate 4096 0 → 128 * entry_count t ≤ length o
  all_room o e = omega (arith, most_room, ap length e ∙ length-replicate {A = ℕ} 4096 0)

  -- the names of an accepted form are good
  pub form_names :
      (count : ℕ) → count ≡ entry_count t → (k : ℕ) (b : List ℕ) → ((cs : List Command) → table_in t ≡ ok cs → FormOf cs k b) → k < count → GoodNames b
  form_names count e k b f l =
      let x = f h.commands h.reads in
      let (c, a, at, has, accepts) = forms_at h.commands h.forms h.accepts k (omega (arith, commands_count t h.commands h.reads)) in
      let same : c ≡ x.command = some-injective c x.command (sym at ∙ x.here) in
      accepted_names b a (rw (same, x.form) at accepts)

-- ---- `gather`
-- the letters of the forms before k are in
pub record Gathering (t : List ℕ) (kind : ℕ) (o₀ o : List ℕ) (n k : ℕ) : Type 0 where
  pub commands : List Command
  pub reads : table_in t ≡ ok commands
  pub letters : List ℕ
  pub holds : Holds o₀ letters o n
  pub same : gathered kind (drop k commands) letters ≡ gathered kind commands []
  pub few : n ≤ 128 * k
  pub long : length o ≡ length o₀

module _ (t : List ℕ) (h : HasForms t) (kind : ℕ) (o₀ : List ℕ) where
  pub gathering_first : Gathering t kind o₀ o₀ 0 0
  gathering_first = record {
    commands = h.commands;
    reads = h.reads;
    letters = [];
    holds = record { words = refl; count = refl; fits = omega arith; rising = record { rises = λ i j l m. absurd (omega arith) } };
    same = refl;
    few = omega arith;
    long = refl;
  }

  module _ (o : List ℕ) (n k : ℕ) (z : Gathering t kind o₀ o n k) (count : ℕ) (e : count ≡ entry_count t) where
    module _ (l : k < count) where
      pub gathering_room : 128 * entry_count t ≤ length o₀ → HasRoom o n 128
      gathering_room fits = holds_room o₀ z.letters o n z.holds 128 (omega (arith, z.few, z.long))

      pub gathering_next :
          (b : List ℕ)
          → ((cs : List Command) → table_in t ≡ ok cs → FormOf cs k b)
          → (o' : List ℕ) (r : ℕ)
          → Inserted o n (letters_by_name (read_form b) kind) o' r
          → Gathering t kind o₀ o' r (k + 1)
      unfolding gathered
      gathering_next b f o' r y =
          let x = f z.commands z.reads in
          let xs = letters_by_name (read_form b) kind in
          let front : take n o ≡ z.letters = holds_front o₀ z.letters o n z.holds in
          let next : Holds o (put_all xs z.letters) o' r = rw front at y.holds in
          let step = drop_below z.commands k x.command x.here in
          record {
            commands = z.commands;
            reads = z.reads;
            letters = put_all xs z.letters;
            holds = holds_next o₀ z.letters o n z.holds (put_all xs z.letters) o' r next y.least;
            same = rw (add-one k) (rw (step, x.form) at z.same);
            few = omega (arith, y.most, z.few, few_letters b kind (form_names t h count e k b f l));
            long = holds_long o (put_all xs z.letters) o' r next ∙ z.long;
          }

    pub gathering_last : count ≤ k → Gathered t kind o₀ o n
    unfolding gathered
    gathering_last l =
        let none = drop_of_length-le z.commands {i = k} (omega (arith, commands_count t z.commands z.reads)) in
        let all : z.letters ≡ gathered kind z.commands [] = rw none at z.same in
        record { commands = z.commands; reads = z.reads; holds = rw all at z.holds }

-- ---- the letters of all forms are those of the table
-- for flags and for arguments
module _
    (kind : ℕ) (of : Letters → List ℕ) (d : ℕ)
    (own : (b : List ℕ) (a : Accepted) → check_form b ≡ accepted a → contains (letters_by_name (read_form b) kind) d ≡ contains (of (letters_of a.form)) d)
    (first : (a : Accepted) (fs : List Accepted)
    → contains (of (table_letters (a ∷ fs))) d ≡ (contains (of (letters_of a.form)) d || contains (of (table_letters fs)) d))
    (nil : contains (of (table_letters [])) d ≡ false)
  where
    gathered_all :
        (cs : List Command) (fs : List Accepted) (s : List ℕ)
        → forms_in cs ≡ ok fs
        → contains (gathered kind cs s) d ≡ (contains (of (table_letters fs)) d || contains s d)
    unfolding gathered forms_in
    gathered_all [] fs s e = let same : [] ≡ fs = ok_injective e in rw (← same, nil)
    gathered_all (c ∷ cs) fs s e =
        let (a, rest, accepts, later, same) = forms_step c cs fs e in
        let xs = letters_by_name (read_form c.form) kind in
        gathered_all cs rest (put_all xs s) later
        ∙ rw (all_contains xs s d, own c.form a accepts)
        (either_first (contains (of (table_letters rest)) d) (contains (of (letters_of a.form)) d) (contains s d))
        ∙ ap (λ (b : Bool). b || contains s d) (sym (first a rest))
        ∙ ap (λ (l : List Accepted). contains (of (table_letters l)) d || contains s d) same

same_own : (b : List ℕ) (a : Accepted) → check_form b ≡ accepted a
    → SameLetters (letters (letters_by_name (read_form b) 1) (letters_by_name (read_form b) 2)) (letters_of a.form)
same_own b a e = rw (accepted_passed b a e).form (same_letters b a e)

pub gathered_same :
    (cs : List Command) (fs : List Accepted) → forms_in cs ≡ ok fs → SameLetters (letters (gathered 1 cs []) (gathered 2 cs [])) (table_letters fs)
unfolding contains table_letters concat_map
gathered_same cs fs e = record {
  flags = λ c. gathered_all 1 (λ l. l.flags) c (λ b a h. (same_own b a h).flags c) (λ a fs. table_flags a fs c) refl cs fs [] e ∙ nothing_more _;
  arguments = λ c.
      gathered_all 2 (λ l. l.arguments) c (λ b a h. (same_own b a h).arguments c) (λ a fs. table_arguments a fs c) refl cs fs [] e ∙ nothing_more _;
}
  where
    nothing_more : (p : Bool) → (p || false) ≡ p
    nothing_more true = refl
    nothing_more false = refl

-- ---- `split`
-- they rise, however many they are
pub rising_letters :
    (t : List ℕ) (o p : List ℕ) (n : ℕ) (q s : List ℕ) (m : ℕ) → Gathered t 1 o p n → Gathered t 2 q s m → CanLookUp (take n p) (take m s)
rising_letters t o p n q s m z y = record { in_flags = searchable 1 o p n z; in_arguments = searchable 2 q s m y }
  where
    searchable : (kind : ℕ) (o p : List ℕ) (n : ℕ) → Gathered t kind o p n → Searchable (take n p)
    searchable kind o p n z = rw (holds_front o _ p n z.holds) (ordered_searchable _ z.holds.rising)

module _
    (t : List ℕ) (o p : List ℕ) (n : ℕ) (q s : List ℕ) (m : ℕ) (z : Gathered t 1 o p n) (y : Gathered t 2 q s m)
    (cs : List Command) (fs : List Accepted) (reads : table_in t ≡ ok cs) (accepts : forms_in cs ≡ ok fs)
  where
    -- what the slices hold are the letters of the table
    same_in_front : SameLetters (letters (take n p) (take m s)) (table_letters fs)
    same_in_front =
        let one : z.commands ≡ cs = ok_injective (sym z.reads ∙ reads) in
        let two : y.commands ≡ cs = ok_injective (sym y.reads ∙ reads) in
        let flags : take n p ≡ gathered 1 cs [] = rw (← one) (holds_front o _ p n z.holds) in
        let others : take m s ≡ gathered 2 cs [] = rw (← two) (holds_front q _ s m y.holds) in
        rw (flags, others) (gathered_same cs fs accepts)

    -- where the parts are written from 0 on
    pub same_as_table : SameLetters (letters (take (n - 0) p) (take (m - 0) s)) (table_letters fs)
    same_as_table = rw (sub-zero n, sub-zero m) same_in_front

    pub split_forms :
        (sheet : List ℕ) (k : ℕ) (out : List ℕ) (r : Ended)
        → SplitEnds (letters (take n p) (take m s)) sheet k out r
        → SplitEnds (table_letters fs) sheet k out r
    split_forms sheet k out r ends =
        let l : Letters = letters (take n p) (take m s) in
        alike_ends l (table_letters fs) sheet k out r (split_same l (table_letters fs) same_in_front 0 (arguments sheet)) ends
