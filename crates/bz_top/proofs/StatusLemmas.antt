-- A cause that holds, and what was written with it, are an ending.
use Rattle.std.proofs.Common.{◌≡◌, inl, inr, ℕ, List, arith}
use Rattle.std.specs.Prelude.{Option}
use Rattle.bz_io.specs.Faults.{Rose}
use Rattle.bz_io.specs.Transfers.{GrewByFront}
use Rattle.bz_top.specs.Endings.{Outside, IsDone, IsLimited, IsReadFault, IsUsage, IsBroken, IsTooLong, IsWant, IsNoImage, IsMisshapen, IsToBeWritten, IsEnded}
use Rattle.bz_top.specs.Parts.{sunk, Says}
use Rattle.bz_sched.specs.FromWorld.WorldView.{WorldView}

-- what the sink said, as the outside has it
abbrev pub Said : Outside → ℕ → List ℕ → ℕ → Type 0
Said o status text answer = Says (sunk o.held o.held_after o.write_faults o.write_faults_after) status text answer

-- the sink failed while a text was written
part : (o : Outside) (status : ℕ) (lab : Option WorldView) (text : List ℕ) → IsToBeWritten o lab text → status ≡ 4 → Rose o.write_faults o.write_faults_after → GrewByFront o.held o.held_after text → IsEnded o status lab
part o status lab text cause is rose grew = record {
  done = λ e. absurd (omega arith);
  read = λ e. absurd (omega arith);
  usage = λ e. absurd (omega arith);
  refused = λ e. absurd (omega arith);
  write = λ e. (rose, (text, cause, grew));
  limit = λ e. absurd (omega arith);
  image = λ e. absurd (omega arith);
  memory = λ e. absurd (omega arith);
  no_other = omega arith;
}

pub is_done : (o : Outside) (status : ℕ) (lab : Option WorldView) (text : List ℕ) → IsDone o lab text → Said o 0 text status → IsEnded o status lab
is_done o status lab text cause (inl (is, wrote)) = record {
  done = λ e. (text, cause, wrote);
  read = λ e. absurd (omega arith);
  usage = λ e. absurd (omega arith);
  refused = λ e. absurd (omega arith);
  write = λ e. absurd (omega arith);
  limit = λ e. absurd (omega arith);
  image = λ e. absurd (omega arith);
  memory = λ e. absurd (omega arith);
  no_other = omega arith;
}
is_done o status lab text cause (inr (is, rose, grew)) = part o status lab text (inl cause) is rose grew

pub is_read : (o : Outside) (status : ℕ) (lab : Option WorldView) (text : List ℕ) → IsReadFault o lab text → Said o 1 text status → IsEnded o status lab
is_read o status lab text cause (inl (is, wrote)) = record {
  done = λ e. absurd (omega arith);
  read = λ e. (text, cause, wrote);
  usage = λ e. absurd (omega arith);
  refused = λ e. absurd (omega arith);
  write = λ e. absurd (omega arith);
  limit = λ e. absurd (omega arith);
  image = λ e. absurd (omega arith);
  memory = λ e. absurd (omega arith);
  no_other = omega arith;
}
is_read o status lab text cause (inr (is, rose, grew)) = part o status lab text (inr (inl cause)) is rose grew

pub is_usage : (o : Outside) (status : ℕ) (lab : Option WorldView) (text : List ℕ) → IsUsage o lab text → Said o 2 text status → IsEnded o status lab
is_usage o status lab text cause (inl (is, wrote)) = record {
  done = λ e. absurd (omega arith);
  read = λ e. absurd (omega arith);
  usage = λ e. (text, cause, wrote);
  refused = λ e. absurd (omega arith);
  write = λ e. absurd (omega arith);
  limit = λ e. absurd (omega arith);
  image = λ e. absurd (omega arith);
  memory = λ e. absurd (omega arith);
  no_other = omega arith;
}
is_usage o status lab text cause (inr (is, rose, grew)) = part o status lab text (inr (inr (inl cause))) is rose grew

pub is_broken : (o : Outside) (status : ℕ) (lab : Option WorldView) (text : List ℕ) → IsBroken o lab text → Said o 3 text status → IsEnded o status lab
is_broken o status lab text cause (inl (is, wrote)) = record {
  done = λ e. absurd (omega arith);
  read = λ e. absurd (omega arith);
  usage = λ e. absurd (omega arith);
  refused = λ e. (inl (text, cause, wrote));
  write = λ e. absurd (omega arith);
  limit = λ e. absurd (omega arith);
  image = λ e. absurd (omega arith);
  memory = λ e. absurd (omega arith);
  no_other = omega arith;
}
is_broken o status lab text cause (inr (is, rose, grew)) = part o status lab text (inr (inr (inr (inl cause)))) is rose grew

pub is_too_long : (o : Outside) (status : ℕ) (lab : Option WorldView) (text : List ℕ) → IsTooLong o lab text → Said o 3 text status → IsEnded o status lab
is_too_long o status lab text cause (inl (is, wrote)) = record {
  done = λ e. absurd (omega arith);
  read = λ e. absurd (omega arith);
  usage = λ e. absurd (omega arith);
  refused = λ e. (inr (text, cause, wrote));
  write = λ e. absurd (omega arith);
  limit = λ e. absurd (omega arith);
  image = λ e. absurd (omega arith);
  memory = λ e. absurd (omega arith);
  no_other = omega arith;
}
is_too_long o status lab text cause (inr (is, rose, grew)) = part o status lab text (inr (inr (inr (inr (inl cause))))) is rose grew

pub is_limited : (o : Outside) (status : ℕ) (lab : Option WorldView) (text : List ℕ) → IsLimited o lab text → Said o 5 text status → IsEnded o status lab
is_limited o status lab text cause (inl (is, wrote)) = record {
  done = λ e. absurd (omega arith);
  read = λ e. absurd (omega arith);
  usage = λ e. absurd (omega arith);
  refused = λ e. absurd (omega arith);
  write = λ e. absurd (omega arith);
  limit = λ e. (text, cause, wrote);
  image = λ e. absurd (omega arith);
  memory = λ e. absurd (omega arith);
  no_other = omega arith;
}
is_limited o status lab text cause (inr (is, rose, grew)) = part o status lab text (inr (inr (inr (inr (inr (inl cause)))))) is rose grew

pub is_want : (o : Outside) (status : ℕ) (lab : Option WorldView) (text : List ℕ) → IsWant o lab text → Said o 7 text status → IsEnded o status lab
is_want o status lab text cause (inl (is, wrote)) = record {
  done = λ e. absurd (omega arith);
  read = λ e. absurd (omega arith);
  usage = λ e. absurd (omega arith);
  refused = λ e. absurd (omega arith);
  write = λ e. absurd (omega arith);
  limit = λ e. absurd (omega arith);
  image = λ e. absurd (omega arith);
  memory = λ e. (text, cause, wrote);
  no_other = omega arith;
}
is_want o status lab text cause (inr (is, rose, grew)) = part o status lab text (inr (inr (inr (inr (inr (inr (inl cause))))))) is rose grew

pub is_no_image : (o : Outside) (status : ℕ) (lab : Option WorldView) (text : List ℕ) → IsNoImage o lab text → Said o 6 text status → IsEnded o status lab
is_no_image o status lab text cause (inl (is, wrote)) = record {
  done = λ e. absurd (omega arith);
  read = λ e. absurd (omega arith);
  usage = λ e. absurd (omega arith);
  refused = λ e. absurd (omega arith);
  write = λ e. absurd (omega arith);
  limit = λ e. absurd (omega arith);
  image = λ e. (inl (text, cause, wrote));
  memory = λ e. absurd (omega arith);
  no_other = omega arith;
}
is_no_image o status lab text cause (inr (is, rose, grew)) = part o status lab text (inr (inr (inr (inr (inr (inr (inr (inl cause)))))))) is rose grew

pub is_misshapen : (o : Outside) (status : ℕ) (lab : Option WorldView) (text : List ℕ) → IsMisshapen o lab text → Said o 6 text status → IsEnded o status lab
is_misshapen o status lab text cause (inl (is, wrote)) = record {
  done = λ e. absurd (omega arith);
  read = λ e. absurd (omega arith);
  usage = λ e. absurd (omega arith);
  refused = λ e. absurd (omega arith);
  write = λ e. absurd (omega arith);
  limit = λ e. absurd (omega arith);
  image = λ e. (inr (text, cause, wrote));
  memory = λ e. absurd (omega arith);
  no_other = omega arith;
}
is_misshapen o status lab text cause (inr (is, rose, grew)) = part o status lab text (inr (inr (inr (inr (inr (inr (inr (inr cause)))))))) is rose grew
