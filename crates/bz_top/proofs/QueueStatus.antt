-- A cause that holds, and what was written with it, are an ending of `queue`.
use Rattle.std.proofs.Common.{◌≡◌, ◌≢◌, inl, inr, ℕ, List, arith}
use Rattle.std.specs.Prelude.{Option}
use Rattle.bz_io.specs.Faults.{Rose}
use Rattle.bz_io.specs.Transfers.{GrewByFront}
use Rattle.bz_queue.specs.QueueView.{QueueView}
use Rattle.bz_top.specs.Endings.{Outside}
use Rattle.bz_top.specs.QueueEndings.{IsQueueDone, IsQueueUnread, IsQueueBroken, IsQueueTooLong, IsQueueLimited, IsQueueWant, IsQueueToBeWritten, IsQueueEnded}
use Rattle.bz_top.proofs.StatusLemmas.{Said}

module _ (o : Outside) (status : ℕ) (queue : Option QueueView) (text : List ℕ) where
  -- the sink failed while a text was written
  part : IsQueueToBeWritten o queue text → status ≡ 4 → Rose o.write_faults o.write_faults_after → GrewByFront o.held o.held_after text → IsQueueEnded o status queue
  part cause is rose grew = record {
    done = λ e. absurd (omega arith);
    read = λ e. absurd (omega arith);
    refused = λ e. absurd (omega arith);
    write = λ e. (rose, (text, cause, grew));
    limit = λ e. absurd (omega arith);
    memory = λ e. absurd (omega arith);
    no_usage = λ e. omega arith;
    no_image = λ e. omega arith;
    no_other = omega arith;
  }

  pub queue_done : IsQueueDone o queue text → Said o 0 text status → IsQueueEnded o status queue
  queue_done cause (inl (is, wrote)) = record {
    done = λ e. (text, cause, wrote);
    read = λ e. absurd (omega arith);
    refused = λ e. absurd (omega arith);
    write = λ e. absurd (omega arith);
    limit = λ e. absurd (omega arith);
    memory = λ e. absurd (omega arith);
    no_usage = λ e. omega arith;
    no_image = λ e. omega arith;
    no_other = omega arith;
  }
  queue_done cause (inr (is, rose, grew)) = part (inl cause) is rose grew

  pub queue_unread : IsQueueUnread o queue text → Said o 1 text status → IsQueueEnded o status queue
  queue_unread cause (inl (is, wrote)) = record {
    done = λ e. absurd (omega arith);
    read = λ e. (text, cause, wrote);
    refused = λ e. absurd (omega arith);
    write = λ e. absurd (omega arith);
    limit = λ e. absurd (omega arith);
    memory = λ e. absurd (omega arith);
    no_usage = λ e. omega arith;
    no_image = λ e. omega arith;
    no_other = omega arith;
  }
  queue_unread cause (inr (is, rose, grew)) = part (inr (inl cause)) is rose grew

  pub queue_broken : IsQueueBroken o queue text → Said o 3 text status → IsQueueEnded o status queue
  queue_broken cause (inl (is, wrote)) = record {
    done = λ e. absurd (omega arith);
    read = λ e. absurd (omega arith);
    refused = λ e. inl (text, cause, wrote);
    write = λ e. absurd (omega arith);
    limit = λ e. absurd (omega arith);
    memory = λ e. absurd (omega arith);
    no_usage = λ e. omega arith;
    no_image = λ e. omega arith;
    no_other = omega arith;
  }
  queue_broken cause (inr (is, rose, grew)) = part (inr (inr (inl cause))) is rose grew

  pub queue_too_long : IsQueueTooLong o queue text → Said o 3 text status → IsQueueEnded o status queue
  queue_too_long cause (inl (is, wrote)) = record {
    done = λ e. absurd (omega arith);
    read = λ e. absurd (omega arith);
    refused = λ e. inr (text, cause, wrote);
    write = λ e. absurd (omega arith);
    limit = λ e. absurd (omega arith);
    memory = λ e. absurd (omega arith);
    no_usage = λ e. omega arith;
    no_image = λ e. omega arith;
    no_other = omega arith;
  }
  queue_too_long cause (inr (is, rose, grew)) = part (inr (inr (inr (inl cause)))) is rose grew

  pub queue_limited : IsQueueLimited o queue text → Said o 5 text status → IsQueueEnded o status queue
  queue_limited cause (inl (is, wrote)) = record {
    done = λ e. absurd (omega arith);
    read = λ e. absurd (omega arith);
    refused = λ e. absurd (omega arith);
    write = λ e. absurd (omega arith);
    limit = λ e. (text, cause, wrote);
    memory = λ e. absurd (omega arith);
    no_usage = λ e. omega arith;
    no_image = λ e. omega arith;
    no_other = omega arith;
  }
  queue_limited cause (inr (is, rose, grew)) = part (inr (inr (inr (inr (inl cause))))) is rose grew

  pub queue_want : IsQueueWant o queue text → Said o 7 text status → IsQueueEnded o status queue
  queue_want cause (inl (is, wrote)) = record {
    done = λ e. absurd (omega arith);
    read = λ e. absurd (omega arith);
    refused = λ e. absurd (omega arith);
    write = λ e. absurd (omega arith);
    limit = λ e. absurd (omega arith);
    memory = λ e. (text, cause, wrote);
    no_usage = λ e. omega arith;
    no_image = λ e. omega arith;
    no_other = omega arith;
  }
  queue_want cause (inr (is, rose, grew)) = part (inr (inr (inr (inr (inr cause))))) is rose grew

  -- the sink failed while the report was written, which is a part of what was to be written
  pub queue_part : IsQueueToBeWritten o queue text → status ≡ 4 → Rose o.write_faults o.write_faults_after → GrewByFront o.held o.held_after text → IsQueueEnded o status queue
  queue_part = part
