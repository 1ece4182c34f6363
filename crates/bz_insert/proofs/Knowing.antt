-- What an insert knows when it is told an answer.
use Rattle.std.proofs.Common.{◌≡◌, ℕ, ◌+◌, ◌<◌, if◌then◌else◌, Bool, true, false, arith, refl, subst}
use Rattle.std.specs.Prelude.{nat_lt}
use Rattle.std.proofs.lemmas.Bool.Decides.{nat_tests}
use Rattle.bz_layout.specs.declared.config.Config.{Config}
use Rattle.bz_task.specs.Requests.{Tells}
use Rattle.bz_task.specs.Scene.{Scene, Stage, Waiting, Took}
use Rattle.bz_task.specs.declared.todo.Seen.{Seen}
use Rattle.bz_task.specs.declared.todo.Seen.TheVariants.{Stored, Flushed, Swapped}
use Rattle.bz_record.specs.Records.{size_of}
use Rattle.bz_record.specs.Writing.{first_line, last_line}
use Rattle.bz_record.proofs.Written.{written}
use Rattle.bz_record.specs.declared.new_record.NewRecord.{NewRecord}
use Rattle.bz_insert.specs.Facts.{HasReserved, insert_asks, insert_facts, IsReady, next_store, next_flush}
use Rattle.bz_insert.specs.declared.phase.InsertPhase.{InsertPhase}
use Rattle.bz_insert.specs.declared.phase.InsertPhase.TheVariants.{Reserve, Store, Flush, Publish}

-- what is known in a phase is known of the phase that it is
pub in-phase : (r : NewRecord) (stage : Stage) (s : Scene) (phase other : InsertPhase) → phase ≡ other → insert_facts r phase stage s → insert_facts r other stage s
in-phase r stage s phase other e f = subst (λ z. insert_facts r z stage s) e f

-- what is told in a phase is told in the phase that it is
pub tells-in : (c : Config) (r : NewRecord) (stage : Stage) (s : Scene) (phase other : InsertPhase) (seen told : Seen) → phase ≡ other → seen ≡ told → Tells (insert_asks c r phase) stage seen s → Tells (insert_asks c r other) stage told s
tells-in c r stage s phase other seen told e g t = subst (λ z. Tells (insert_asks c r z) stage told s) e (subst (λ z. Tells (insert_asks c r phase) stage z s) g t)

-- after the reservation the first word may be stored
pub ready-store : (c : Config) (r : NewRecord) (stage : Stage) (s : Scene) → s.past.config ≡ c → insert_facts r Reserve stage s → Tells (insert_asks c r Reserve) stage (Swapped true) s → IsReady c r (Store 0)
ready-store c r Waiting s e f t = absurd (cc)
ready-store c r Took s e f t = (f.1.fits, subst (λ z. r.slot < z.nodes) e f.1.reserved.leaf.leaf.slot, f.1.fits.some)

pub told-reserved : (c : Config) (r : NewRecord) (stage : Stage) (s : Scene) → insert_facts r Reserve stage s → Tells (insert_asks c r Reserve) stage (Swapped true) s → insert_facts r (Store 0) Waiting s
told-reserved c r Waiting s f t = absurd (cc)
told-reserved c r Took s f t = (f.0, (f.1.fits.some, f.1))

-- after a store the next word, or a line
pub told-stored : (c : Config) (r : NewRecord) (i : ℕ) (stage : Stage) (s : Scene) → insert_facts r (Store i) stage s → Tells (insert_asks c r (Store i)) stage Stored s → insert_facts r (next_store r i) Waiting s
told-stored c r i Waiting s f t = absurd (t)
told-stored c r i Took s f t = go (nat_lt (i + 1) (size_of r)) refl
  where
    go : (b : Bool) → nat_lt (i + 1) (size_of r) ≡ b → insert_facts r (if b then Store (i + 1) else Flush 0) Waiting s
    go true e = (f.0, (grind (arith, nat_tests), f.1.1))
    go false e =
        let last : i + 1 ≡ size_of r = grind (arith, nat_tests, f.1.0) in
        (f.0, (omega (arith, f.1.1.fits.some), subst (λ z. HasReserved r z 0 s) last f.1.1))

-- a line is one of a few
pub ready-flush : (c : Config) (r : NewRecord) (n : ℕ) (stage : Stage) (s : Scene) → s.past.config ≡ c → insert_facts r (Flush n) stage s → IsReady c r (Flush n)
ready-flush c r n Waiting s e f = (f.1.1.fits, subst (λ z. r.slot < z.nodes) e f.1.1.reserved.leaf.leaf.slot, omega (arith, f.1.0, f.1.1.fits.some, f.1.1.fits.few))
ready-flush c r n Took s e f = (f.1.1.fits, subst (λ z. r.slot < z.nodes) e f.1.1.reserved.leaf.leaf.slot, omega (arith, f.1.0, f.1.1.fits.some, f.1.1.fits.few))

-- after a flush the next line, or all is written
pub told-flushed : (c : Config) (r : NewRecord) (n : ℕ) (stage : Stage) (s : Scene) → s.past.config ≡ c → insert_facts r (Flush n) stage s → Tells (insert_asks c r (Flush n)) stage Flushed s → insert_facts r (next_flush c r n) Waiting s
told-flushed c r n Waiting s same f t = absurd (t)
told-flushed c r n Took s same f t = subst (λ z. insert_facts r (next_flush z r n) Waiting s) same (go (nat_lt (first_line s.past.config r + n) (last_line s.past.config r)) refl)
  where
    go : (b : Bool) → nat_lt (first_line s.past.config r + n) (last_line s.past.config r) ≡ b → insert_facts r (if b then Flush (n + 1) else Publish) Waiting s
    go true e = (f.0, (grind (arith, nat_tests), f.1.1))
    go false e =
        let past : last_line s.past.config r < first_line s.past.config r + (n + 1) = grind (arith, nat_tests) in
        (f.0, record { fits = f.1.1.fits; reserved = f.1.1.reserved; written = written r (n + 1) s f.1.1.writing past; going = f.1.1.going })
