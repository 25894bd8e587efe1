-- The library's search over the records, by whether they have a kind. Assumes nothing.
use borrow.Author.Rules.{rules}
use Rattle.std.proofs.lemmas.List.Sorted.{IsPartitionPoint-from_clause}
use Rattle.careful_batch.proofs.Lines.{has_kind, kinds_parted, counted}
use Rattle.careful_batch.proofs.item_count.Goals as goal

pub returns : goal.returns
returns c =
    let chunks = c.as_chunks.ensures in
    let parted = kinds_parted _ c.requires _ chunks.front chunks.front_len in
    let point = IsPartitionPoint-from_clause has_kind _ _ c.partition_point.ensures.partitioned parted (λ a r q k. search rules) in
    counted _ c.requires _ chunks.front chunks.front_len _ c.partition_point.ensures.bound point
