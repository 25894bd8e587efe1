-- By where the search ended, and what stands behind it. Assumes nothing.
use mathlib.Core.Path.{refl, sym, ap}
use Rattle.split_arg.specs.declared.Item.TheVariants.{ArgWord, Word}
use Rattle.take.proofs.Laws.{ready_room, ready_below, free_inside, sought_scope, arg_missing, no_place, no_word, word_taken, arg_word_taken}
use Rattle.take.proofs.Texts.{tags_not_word}
use Rattle.take.proofs.use_argument.Goals as goal
use Rattle.take.proofs.use_argument.Goals.{in-Word, in-Word-2}

pub returns-then-end-key : goal.returns-then-end-key
returns-then-end-key c area n adjacent g sought =
    arg_missing _ area _ _ _ g _ _ refl refl n adjacent _ (sought_scope _ area _ _ _ g _ _ refl refl _ _ sought) c.if-end-key.true

pub returns-then-not-is_free : goal.returns-then-not-is_free
returns-then-not-is_free c area n adjacent g sought =
    no_place _ area _ _ _ g _ _ refl refl n adjacent _ (sought_scope _ area _ _ _ g _ _ refl refl _ _ sought) c.if-end-key.false _
    c.is_free.ensures c.if-not-is_free.true _ c.no_argument.ensures

pub read_item-item-requires : goal.read_item-item-requires
read_item-item-requires c = ready_room _ _ _ _ _ c.requires.1 _ _ refl refl _ (free_inside _ _ _ _ c.is_free.ensures c.if-not-is_free.false)

pub returns-in_default : goal.returns-in_default
returns-in_default c area n adjacent g sought =
    no_word _ area _ _ _ g _ _ refl refl n adjacent _ (sought_scope _ area _ _ _ g _ _ refl refl _ _ sought) c.if-end-key.false _
    c.is_free.ensures c.if-not-is_free.false _ c.read_item-item.ensures
    (tags_not_word _ c.in_default.not-ArgWord c.in_default.not-Word) _ c.no_argument-in_default.ensures

pub use_both-left-requires : goal.use_both-left-requires
use_both-left-requires c =
    (c.requires.1.fine, c.requires.1.told, ready_below _ _ _ _ _ c.requires.1 _ _ refl refl _ (free_inside _ _ _ _ c.is_free.ensures c.if-not-is_free.false))

pub returns : goal.returns
returns c area n adjacent g sought =
    elim c.match-item.branch [
      | in-Word w ↦
          word_taken _ area _ _ _ g _ _ refl refl n adjacent _ (sought_scope _ area _ _ _ g _ _ refl refl _ _ sought)
          c.if-end-key.false _ c.is_free.ensures c.if-not-is_free.false _ w.in-Word.ensures c.match-item.t _ _ c.use_both-left.ensures
          (ap Word (sym w.t-is))
      | in-Word-2 w ↦
          arg_word_taken _ area _ _ _ g _ _ refl refl n adjacent _ (sought_scope _ area _ _ _ g _ _ refl refl _ _ sought)
          c.if-end-key.false _ c.is_free.ensures c.if-not-is_free.false _ w.in-Word.ensures c.match-item.t _ _ c.use_both-left.ensures
          (ap ArgWord (sym w.t-is))
    ]
