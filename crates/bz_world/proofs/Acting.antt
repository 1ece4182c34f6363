-- What the act of a worker whose call is open leads to.
use Rattle.std.proofs.Common.{◌≡◌, ◌≢◌, ℕ, ◌+◌, ◌<◌, List, length, arith, refl, sym, ap, subst, ◌∙◌, inl, Option, Some, None}
use Rattle.std.specs.Prelude.{get_or}
use Rattle.bz_swap_acts.specs.declared.acted.Act.{Act}
use Rattle.bz_swap_machine.specs.declared.done.Done.{Done}
use Rattle.bz_swap_machine.specs.declared.done.Done.TheVariants as done
use Rattle.bz_mark.specs.Log.{Log}
use Rattle.bz_sound.specs.Calls.{open_call}
use Rattle.bz_swap.specs.SwapMemory.{SwapMemory, Idle, doing_of, worker_of}
use Rattle.bz_task.specs.declared.todo.Seen.{Seen}
use Rattle.bz_task.specs.declared.todo.Seen.TheVariants as heard
use Rattle.bz_task.specs.declared.todo.Todo.{Todo}
use Rattle.bz_task.specs.declared.todo.Todo.TheVariants as todo
use Rattle.bz_world.specs.Inside.Acted.{IsActed, IsTold, MustTell, HasActed, seen_by}
use Rattle.bz_world.specs.Inside.Kept.{IsAwake}
use Rattle.bz_world.specs.WorldView.{IsStruck}
use Rattle.bz_world.specs.Inside.Laws.{StepLaws}
use Rattle.bz_world.specs.Inside.Paid.{stock_of}
use Rattle.bz_world.specs.Inside.Serving.{IsServing, IsDoing, IsSlot}
use Rattle.bz_world.specs.declared.parts.Parts.{Parts}
use Rattle.bz_world.specs.declared.serving.OpenCall.{OpenCall}
use Rattle.bz_world.proofs.Quiet.{serves}
use Rattle.bz_world.proofs.Went.{Went, went}

-- the worker's call is served
pub record IsServed (p : Parts) (w : ℕ) (slot : Option OpenCall) : Type 0 where
  pub serving : OpenCall
  pub is : slot ≡ Some serving

served-by : (p : Parts) (k : IsAwake p) (w : ℕ) (slot : Option OpenCall) → IsSlot p.config p.access p.journal k.story p.owners.items (stock_of p) w slot → open_call w p.journal.past ≢ None → IsServed p w slot
served-by p k w None h open_is = absurd (open_is h.none_open)
served-by p k w (Some x) h open_is = record { serving = x; is = refl }

pub is-served : (p : Parts) (k : IsAwake p) (w : ℕ) → open_call w p.journal.past ≢ None → IsServed p w (get_or p.workers.items w None)
is-served p k w open_is = served-by p k w (get_or p.workers.items w None) (k.workers w) open_is

-- so it does something
does-asked : (m : SwapMemory) (owners : List ℕ) (w : ℕ) (t : Todo) → IsDoing m owners w t → doing_of m w ≢ Idle
does-asked m owners w (todo.Read a) d = λ e. absurd (cc (d, e))
does-asked m owners w (todo.Load a) d = absurd d
does-asked m owners w (todo.Store a v) d = λ e. absurd (cc (d.0, e))
does-asked m owners w (todo.Flush line) d = λ e. absurd (cc (d.0, e))
does-asked m owners w (todo.Swap entries) d = λ e. absurd (cc (d.doing, e))
does-asked m owners w todo.Finish d = absurd d

pub is-busy : (p : Parts) (k : IsAwake p) (w : ℕ) → open_call w p.journal.past ≢ None → doing_of p.access w ≢ Idle
is-busy p k w open_is = let s = is-served p k w open_is in let h : IsServing p.config p.access p.journal k.story p.owners.items (stock_of p) w s.serving = serves p k w s.serving s.is in does-asked p.access p.owners.items w h.asked h.doing

-- an act without effect
module _ (b : StepLaws) (old new : Parts) (w : ℕ) (made : Act) (answer : Done) (k : IsAwake old) (open_is : open_call w old.journal.past ≢ None) (a : IsActed old w made answer None new) (room : length old.journal.past + 1 < old.config.marks) where
  went-on : (z : Done) → answer ≡ z → Went new w (is-served old k w open_is).serving z
  went-on z e = subst (Went new w (is-served old k w open_is).serving) e (went b old new w (is-served old k w open_is).serving made answer k (is-served old k w open_is).is a (omega (arith, room)))

  must-tell : (seen : Seen) → IsTold new w (is-served old k w open_is).serving seen → MustTell new w seen
  must-tell seen told = record {
    serving = (is-served old k w open_is).serving;
    is = ap (λ (p : Parts). get_or p.workers.items w None) a.rest ∙ (is-served old k w open_is).is;
    told = told;
  }

  told-by : (told seen : Seen) → Some told ≡ Some seen → MustTell new w told → MustTell new w seen
  told-by told seen is must = let same : told ≡ seen = cc is in subst (MustTell new w) same must

  -- it goes on, if its task is to be told nothing
  pub acted-on : (z : Done) → answer ≡ z → seen_by z ≡ None → IsAwake new
  acted-on done.Busy e none = went-on done.Busy e
  acted-on (done.Read v) e none = absurd (cc none)
  acted-on (done.Swapped won) e none = absurd (cc none)
  acted-on done.Stored e none = absurd (cc none)
  acted-on done.Flushed e none = absurd (cc none)

  -- or its task is to be told this
  pub acted-told : (z : Done) → answer ≡ z → (seen : Seen) → seen_by z ≡ Some seen → MustTell new w seen
  acted-told done.Busy e seen is = absurd (cc is)
  acted-told (done.Read v) e seen is = told-by (heard.Read v) seen is (must-tell (heard.Read v) (went-on (done.Read v) e))
  acted-told (done.Swapped won) e seen is = told-by (heard.Swapped won) seen is (must-tell (heard.Swapped won) (went-on (done.Swapped won) e))
  acted-told done.Stored e seen is = told-by heard.Stored seen is (must-tell heard.Stored (went-on done.Stored e))
  acted-told done.Flushed e seen is = told-by heard.Flushed seen is (must-tell heard.Flushed (went-on done.Flushed e))

-- nothing is told where there is nothing to tell
pub none-told : (seen : Seen) → None ≢ Some seen
none-told seen e = cc e

-- it is told of no want of a descriptor, and not to begin
pub tells-no-want : (z : Done) → seen_by z ≢ Some heard.NoSwap
tells-no-want done.Busy e = cc e
tells-no-want (done.Read v) e = cc e
tells-no-want (done.Swapped won) e = cc e
tells-no-want done.Stored e = cc e
tells-no-want done.Flushed e = cc e

pub tells-no-start : (z : Done) → seen_by z ≢ Some heard.Start
tells-no-start done.Busy e = cc e
tells-no-start (done.Read v) e = cc e
tells-no-start (done.Swapped won) e = cc e
tells-no-start done.Stored e = cc e
tells-no-start done.Flushed e = cc e

-- an act with its effect noted is one act still
pub struck-acted : (old mid new : Parts) (w : ℕ) (made : Act) (answer : Done) (effect : Option ℕ) → IsActed old w made answer effect mid → IsStruck mid.journal.past new.journal.past
    → new ≡ record mid { journal = record mid.journal { past = new.journal.past }; workers = new.workers; pairs = new.pairs } → HasActed old w new
struck-acted old mid new w made answer effect a struck rest = record {
  made = made;
  flush = a.step.one.flush;
  struck = subst (λ (p : Parts). IsStruck p.journal.past new.journal.past) a.rest struck;
  journal = ap (λ (p : Parts). p.journal) rest ∙ ap (λ (p : Parts). record p.journal { past = new.journal.past }) a.rest;
  others = λ v ne. ap (λ (p : Parts). worker_of p.access v) rest ∙ a.step.one.others.workers v ne;
  rest = whole;
}
  where
    access-is : new.access ≡ mid.access
    access-is = ap (λ (p : Parts). p.access) rest

    journal-is : new.journal ≡ record mid.journal { past = new.journal.past }
    journal-is = ap (λ (p : Parts). p.journal) rest

    whole : new ≡ record old { access = new.access; journal = new.journal; workers = new.workers; pairs = new.pairs }
    whole = rest ∙ (ap (λ (p : Parts). record p { journal = record mid.journal { past = new.journal.past }; workers = new.workers; pairs = new.pairs }) a.rest
        ∙ (ap (λ (m : SwapMemory). record old { access = m; journal = record mid.journal { past = new.journal.past }; workers = new.workers; pairs = new.pairs }) (sym access-is)
        ∙ ap (λ (j : Log). record old { access = new.access; journal = j; workers = new.workers; pairs = new.pairs }) (sym journal-is)))

-- and so is one without effect
pub quiet-acted : (old new : Parts) (w : ℕ) (made : Act) (answer : Done) → IsActed old w made answer None new → HasActed old w new
quiet-acted old new w made answer a = struck-acted old new new w made answer None a (inl refl) refl
