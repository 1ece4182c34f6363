-- What an update knows when it is told an answer.
use Rattle.std.proofs.Common.{◌≡◌, ℕ, ◌+◌, ◌<◌, if◌then◌else◌, Bool, true, false, arith, refl, subst}
use Rattle.std.specs.Prelude.{nat_lt}
use Rattle.std.proofs.lemmas.Bool.Decides.{nat_tests}
use Rattle.bz_layout.specs.declared.config.Config.{Config}
use Rattle.bz_task.specs.Requests.{Tells}
use Rattle.bz_task.specs.Scene.{Scene, Stage, Waiting, Took}
use Rattle.bz_task.specs.declared.todo.Seen.{Seen}
use Rattle.bz_task.specs.declared.todo.Seen.TheVariants.{Flushed, Swapped}
use Rattle.bz_task.specs.declared.view.KeyView.{KeyView}
use Rattle.bz_record.specs.Writing.{first_line, last_line}
use Rattle.bz_record.proofs.Written.{written}
use Rattle.bz_record.specs.declared.found_record.FoundRecord.{FoundRecord}
use Rattle.bz_record.specs.declared.new_record.NewRecord.{NewRecord}
use Rattle.bz_mutate.specs.UpdateFacts.{IsReady, update_asks, update_facts, next_flush}
use Rattle.bz_mutate.specs.declared.update_phase.UpdatePhase.{UpdatePhase}
use Rattle.bz_mutate.specs.declared.update_phase.UpdatePhase.TheVariants.{Grow, Store, Flush, Replace}

-- what is known in a phase is known of the phase that it is
pub in-phase : (v : KeyView) (r : NewRecord) (stage : Stage) (s : Scene) (phase other : UpdatePhase) → phase ≡ other → update_facts v r phase stage s → update_facts v r other stage s
in-phase v r stage s phase other e f = subst (λ z. update_facts v r z stage s) e f

-- what is told in a phase is told in the phase that it is
pub tells-in : (c : Config) (r : NewRecord) (stage : Stage) (s : Scene) (phase other : UpdatePhase) (seen told : Seen) → phase ≡ other → seen ≡ told → Tells (update_asks c r phase) stage seen s → Tells (update_asks c r other) stage told s
tells-in c r stage s phase other seen told e g t = subst (λ z. Tells (update_asks c r z) stage told s) e (subst (λ z. Tells (update_asks c r phase) stage z s) g t)

-- after the growth the first word may be stored
pub ready-grown : (c : Config) (v : KeyView) (r : NewRecord) (f : FoundRecord) (stage : Stage) (s : Scene) → s.past.config ≡ c → update_facts v r (Grow f) stage s → IsReady c v r (Store f 0)
ready-grown c v r f Waiting s same k = (record { pair = k.1.pair; slot = subst (λ z. r.slot < z.nodes) same k.1.was.leaf.leaf.slot }, k.1.pair.fits.some)
ready-grown c v r f Took s same k = (record { pair = k.1.pair; slot = subst (λ z. r.slot < z.nodes) same k.1.grown.was.leaf.leaf.slot }, k.1.pair.fits.some)

pub told-grown : (c : Config) (v : KeyView) (r : NewRecord) (f : FoundRecord) (stage : Stage) (s : Scene) → update_facts v r (Grow f) stage s → Tells (update_asks c r (Grow f)) stage (Swapped true) s → update_facts v r (Store f 0) Waiting s
told-grown c v r f Waiting s k t = absurd (cc)
told-grown c v r f Took s k t = (k.0, (k.1.pair.fits.some, k.1))

-- after a flush the next line, or all is written
pub told-flushed : (c : Config) (v : KeyView) (r : NewRecord) (f : FoundRecord) (n : ℕ) (stage : Stage) (s : Scene) → s.past.config ≡ c → update_facts v r (Flush f n) stage s → Tells (update_asks c r (Flush f n)) stage Flushed s → update_facts v r (next_flush c r f n) Waiting s
told-flushed c v r f n Waiting s same k t = absurd (t)
told-flushed c v r f n Took s same k t = subst (λ z. update_facts v r (next_flush z r f n) Waiting s) same (go (nat_lt (first_line s.past.config r + n) (last_line s.past.config r)) refl)
  where
    go : (b : Bool) → nat_lt (first_line s.past.config r + n) (last_line s.past.config r) ≡ b → update_facts v r (if b then Flush f (n + 1) else Replace f) Waiting s
    go true e = (k.0, (grind (arith, nat_tests), k.1.1))
    go false e =
        let past : last_line s.past.config r < first_line s.past.config r + (n + 1) = grind (arith, nat_tests) in
        (k.0, record { pair = k.1.1.pair; grown = k.1.1.grown; written = written r (n + 1) s k.1.1.writing past; going = k.1.1.going })
