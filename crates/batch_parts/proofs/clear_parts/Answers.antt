use Rattle.batch_parts.proofs.clear_parts.Goals as goal

pub returns : goal.returns
returns c =
    record {
      records_after = c.clear_past.ensures;
      after = c.clear_past-2.ensures;
      answers_after = c.clear_past-3.ensures;
      list_after = c.clear_past-4.ensures;
    }
