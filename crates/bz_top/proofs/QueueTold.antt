-- What was told of a script of a queue is how its run ends.
use Rattle.std.proofs.Common.{◌≡◌, ◌≤◌, ◌⊎◌, inl, inr, ℕ, List, ◌++◌, refl, sym, subst, ◌∙◌}
use Rattle.std.specs.Prelude.{Option, Some, None, Result, Ok, Err, codes}
use Rattle.std.specs.Io.KnownBytes.{Appends}
use Rattle.bz_io.specs.Faults.{Rose}
use Rattle.bz_io.specs.Transfers.{GrewByFront}
use Rattle.bz_qrun.specs.Run.{RanTo, RanWhole, RanInPart, HasRun, RunsBy, RunsScript}
use Rattle.bz_qrun.specs.declared.fault.QueueFault.{QueueFault}
use Rattle.bz_qrun.specs.declared.fault.QueueFault.TheVariants as fault
use Rattle.bz_qscript.specs.Script.{QJob, script_of}
use Rattle.bz_qsched.specs.declared.items.ItemsEnd.{ItemsEnd}
use Rattle.bz_qsched.specs.declared.items.ItemsEnd.TheVariants as end
use Rattle.bz_queue.specs.QueueView.{QueueView}
use Rattle.bz_queue.specs.declared.answers.QLimit.{QLimit}
use Rattle.bz_script.specs.Script.{Fault}
use Rattle.bz_sched.specs.FromWorld.WorldView.{WorldView}
use Rattle.bz_top.specs.Parts.{Given, Sunk, sunk, Says, FailsToRead, RunsOver, Wants}
use Rattle.bz_top.specs.QueueEndings.{IsRight, IsRightIn, queue_limit_text, report_from}
use Rattle.bz_top.specs.QueueParts.{QueueFinishes, QueueStops, QueueGivesUp, QueueWants, QueueRuns, QueueRefuses, RanQueueBytes, RanQueueSource, IsTold}
use Rattle.bz_top.specs.Faults.{fault_line, broken_text}
use Rattle.bz_top.proofs.WriteLemmas.{says_both, front_of_both}

-- the sink was not asked any more
still : (a b c : Option (List ℕ)) (p q r : ℕ) (text : List ℕ) → c ≡ b → r ≡ q → Appends a b text → Says (sunk a c p r) 0 text 0
still a b c p q r text same_held same_faults wrote = inl (refl, subst (λ (held : Option (List ℕ)). Appends a held text) (sym same_held) wrote)

failed : (a b c : Option (List ℕ)) (p q r status kind : ℕ) (text : List ℕ) → c ≡ b → r ≡ q → status ≡ 4 → Rose p q → GrewByFront a b text → Says (sunk a c p r) kind text status
failed a b c p q r status kind text same_held same_faults is rose grew =
    inr (is, subst (λ (faults : ℕ). Rose p faults) (sym same_faults) rose, subst (λ (held : Option (List ℕ)). GrewByFront a held text) (sym same_held) grew)

unchanged : (a b c : Option (List ℕ)) (p q r kind status : ℕ) (text : List ℕ) → (b ≡ a) × (q ≡ p) → Says (sunk b c q r) kind text status → Says (sunk a c p r) kind text status
unchanged a b c p q r kind status text same said =
    subst (λ (held : Option (List ℕ)). Says (sunk held c p r) kind text status) same.0 (subst (λ (faults : ℕ). Says (sunk b c faults r) kind text status) same.1 said)

-- a run over a queue
module _ (marks : ℕ) (job : QJob) (view : QueueView) (right : IsRight view) (a b c : Option (List ℕ)) (p q r status : ℕ) (left : Option QueueView) (is_queue : left ≡ Some view) (later : p ≤ q) where
  finishes : (how : ItemsEnd) → RanTo job marks how view → how ≡ end.Finished → Says (sunk a c p r) 0 (report_from view) status → QueueFinishes marks job (sunk a c p r) status left
  finishes how ran is said = record { view = view; is_queue = is_queue; right = right; ran = subst (λ (h : ItemsEnd). RanTo job marks h view) is ran; said = said }

  told_part : (how : ItemsEnd) → RanTo job marks how view → Rose p q → GrewByFront a b (report_from view) → c ≡ b → r ≡ q → status ≡ 4
      → QueueFinishes marks job (sunk a c p r) status left ⊎ QueueStops marks job (sunk a c p r) status left
  told_part end.Finished ran rose grew same_held same_faults is =
      inl (record { view = view; is_queue = is_queue; right = right; ran = ran; said = failed a b c p q r status 0 (report_from view) same_held same_faults is rose grew })
  told_part (end.Limit which) ran rose grew same_held same_faults is =
      inr (record {
        view = view;
        is_queue = is_queue;
        right = right;
        which = which;
        ran = ran;
        said = failed a b c p q r status 5 (report_from view ++ fault_line (queue_limit_text which)) same_held same_faults is rose (front_of_both a b (report_from view) (fault_line (queue_limit_text which)) grew);
      })

  told_limit : (how : ItemsEnd) (which : QLimit) → RanTo job marks how view → how ≡ end.Limit which → Appends a b (report_from view) → Says (sunk b c q r) 5 (fault_line (queue_limit_text which)) status → QueueStops marks job (sunk a c p r) status left
  told_limit how which ran is wrote said = record {
    view = view;
    is_queue = is_queue;
    right = right;
    which = which;
    ran = subst (λ (h : ItemsEnd). RanTo job marks h view) is ran;
    said = says_both a b c p q r 5 status (report_from view) (fault_line (queue_limit_text which)) wrote later said;
  }

  either_ran : (how : ItemsEnd) → RanTo job marks how view → RanWhole job marks view ⊎ ((which : QLimit) × RanInPart job marks which view)
  either_ran end.Finished ran = inl ran
  either_ran (end.Limit which) ran = inr (which, ran)

  -- what was told of it, by the answer
  told_run : (lab : Option WorldView) (answer : Result (Unit {0}) QueueFault) → HasRun job marks view a b p q answer → (answer ≡ Err fault.Memory → (b ≡ a) × (q ≡ p)) → IsTold (Some view) answer (sunk b c q r) status lab left
      → QueueFinishes marks job (sunk a c p r) status left ⊎ (QueueStops marks job (sunk a c p r) status left ⊎ QueueGivesUp marks job (sunk a c p r) status left)
  told_run lab (Ok done) ran same (none, is, zeroed, same_held, same_faults) = inl (finishes ran.how ran.ran ran.tells.0 (subst (λ (s : ℕ). Says (sunk a c p r) 0 (report_from view) s) (sym zeroed) (still a b c p q r (report_from view) same_held same_faults ran.tells.1)))
  told_run lab (Err (fault.Limit which)) ran same (none, is, said) = inr (inl (told_limit ran.how which ran.ran ran.tells.0 ran.tells.1 said))
  told_run lab (Err fault.Write) ran same (none, is, four, same_held, same_faults) = elim (told_part ran.how ran.ran ran.tells.0 ran.tells.1 same_held same_faults four) [ inl done ↦ inl done | inr stops ↦ inr (inl stops) ]
  told_run lab (Err fault.Memory) ran same (none, is, said) =
      inr (inr (record { view = view; is_queue = is_queue; right = right; ran = either_ran ran.how ran.ran; said = unchanged a b c p q r 7 status (fault_line (codes "memory")) (same refl) said }))
  told_run lab (Err (fault.Line line rule)) ran same told = absurd ran.tells

told_lab : (queue left : Option QueueView) (answer : Result (Unit {0}) QueueFault) (k : Sunk) (status : ℕ) (lab : Option WorldView) → IsTold queue answer k status lab left → lab ≡ None
told_lab queue left (Ok done) k status lab told = told.0
told_lab queue left (Err (fault.Limit which)) k status lab told = told.0
told_lab queue left (Err fault.Write) k status lab told = told.0
told_lab queue left (Err fault.Memory) k status lab told = told.0
told_lab queue left (Err (fault.Line line rule)) k status lab told = told.0

told_left : (view : QueueView) (left : Option QueueView) (job : QJob) (marks : ℕ) (a b : Option (List ℕ)) (p q : ℕ) (answer : Result (Unit {0}) QueueFault) (k : Sunk) (status : ℕ) (lab : Option WorldView) → HasRun job marks view a b p q answer → IsTold (Some view) answer k status lab left → left ≡ Some view
told_left view left job marks a b p q (Ok done) k status lab ran told = told.1
told_left view left job marks a b p q (Err (fault.Limit which)) k status lab ran told = told.1
told_left view left job marks a b p q (Err fault.Write) k status lab ran told = told.1
told_left view left job marks a b p q (Err fault.Memory) k status lab ran told = told.1
told_left view left job marks a b p q (Err (fault.Line line rule)) k status lab ran told = absurd ran.tells

-- the bytes of a script, by what they are
module _ (marks : ℕ) (bytes : List ℕ) (a b c : Option (List ℕ)) (p q r status : ℕ) (lab : Option WorldView) (left : Option QueueView) (later : p ≤ q) where
  told_found : (found : Result QJob Fault) (queue : Option QueueView) (answer : Result (Unit {0}) QueueFault) → script_of bytes ≡ found → RunsBy found marks queue a b p q answer → (queue ≡ None → (b ≡ a) × (q ≡ p)) → (answer ≡ Err fault.Memory → (b ≡ a) × (q ≡ p))
      → IsRightIn queue → IsTold queue answer (sunk b c q r) status lab left → QueueRuns marks bytes (sunk a c p r) status left ⊎ (QueueRefuses bytes (sunk a c p r) status left ⊎ QueueWants (sunk a c p r) status left)
  told_found (Ok job) (Some view) answer is ran none memory right told =
      inl (record {
        job = job;
        is_script = is;
        ran = told_run marks job view right a b c p q r status left (told_left view left job marks a b p q answer (sunk b c q r) status lab ran told) later lab answer ran memory told;
      })
  told_found (Ok job) None answer is wanted none memory right told =
      let said = subst (λ (how : Result (Unit {0}) QueueFault). IsTold None how (sunk b c q r) status lab left) wanted told in
      inr (inr (record { no_queue = said.1; said = unchanged a b c p q r 7 status (fault_line (codes "memory")) (none refl) said.2 }))
  told_found (Err first) queue answer is (no_queue, inl line) none memory right told =
      let said = subst (λ (how : Result (Unit {0}) QueueFault). IsTold queue how (sunk b c q r) status lab left) line told in
      inr (inl (record {
        line = first.line;
        rule = first.rule;
        is_fault = is;
        no_queue = said.1;
        said = elim said.2 [
          | inl wrote ↦ inl (unchanged a b c p q r 3 status (fault_line (broken_text first.line first.rule)) (none no_queue) wrote)
          | inr wants ↦ inr (unchanged a b c p q r 7 status (fault_line (codes "memory")) (none no_queue) wants)
        ];
      }))
  told_found (Err first) queue answer is (no_queue, inr wanted) none memory right told =
      let said = subst (λ (how : Result (Unit {0}) QueueFault). IsTold queue how (sunk b c q r) status lab left) wanted told in
      inr (inr (record { no_queue = said.1 ∙ no_queue; said = unchanged a b c p q r 7 status (fault_line (codes "memory")) (none no_queue) said.2 }))

  pub told_bytes : (queue : Option QueueView) (answer : Result (Unit {0}) QueueFault) → RunsScript bytes marks queue a b p q answer → (queue ≡ None → (b ≡ a) × (q ≡ p)) → (answer ≡ Err fault.Memory → (b ≡ a) × (q ≡ p))
      → IsRightIn queue → IsTold queue answer (sunk b c q r) status lab left → RanQueueBytes marks bytes (sunk a c p r) status lab left
  told_bytes queue answer ran none memory right told = (told_lab queue left answer (sunk b c q r) status lab told, told_found (script_of bytes) queue answer refl ran none memory right told)

-- the source was not read to its end
pub answered_early : (marks : ℕ) (g : Given) (k : Sunk) (status one : ℕ) (lab world : Option WorldView) (queue : Option QueueView) → status ≡ one → lab ≡ world → queue ≡ None → FailsToRead g k one world ⊎ (RunsOver g k one world ⊎ Wants k one world) → RanQueueSource marks g k status lab queue
answered_early marks g k status one lab world queue same_status same_lab none answered = inl (rw (same_status, same_lab) answered, none)
