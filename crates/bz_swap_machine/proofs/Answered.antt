-- The owner of a complete swap answers.
use Rattle.std.proofs.Common.{Some, ◌≡◌, ◌≢◌, ℕ, true, arith, inl, inr}
use Rattle.std.proofs.lemmas.Grind.{common_steps}
use Rattle.bz_swap_machine.specs.declared.status.Verdict.{Verdict}
use Rattle.bz_swap_machine.specs.declared.status.Verdict.TheVariants.{Succeeded, Failed}
use Rattle.bz_swap_machine.specs.Machine.{Entries, Memory, is_verdict}
use Rattle.bz_swap_machine.specs.Changes.{with_answer}
use Rattle.bz_swap_machine.specs.Sound.{Sound}
use Rattle.bz_swap_machine.specs.Keeps.{KeepsDescriptor}
use Rattle.bz_swap_machine.specs.declared.worker.Operation.{Operation}
use Rattle.bz_swap_machine.specs.declared.worker.Operation.TheVariants.{Nothing, Reading, Swapping}
use Rattle.bz_swap_machine.specs.declared.done.Done.TheVariants.{Swapped}
use Rattle.bz_swap_machine.specs.Steps.{Local, answers, is_own, is_success}
use Rattle.bz_swap_machine.specs.Knows.{Owns, BackPublished}
use Rattle.bz_swap_machine.specs.Content.{QuietOrEffect}
use Rattle.bz_swap_machine.specs.Promise.{IsAnswer}
use Rattle.bz_swap_machine.proofs.Change.{Change}
use Rattle.bz_swap_machine.proofs.Told.{none-verdict}
use Rattle.bz_swap_machine.proofs.Good.{Good}
use Rattle.bz_swap_machine.proofs.Published.{durably_decided-published, durable_verdict-cached, one_verdict}

sound-answer : (e : ℕ → Entries) (m : Memory) (s : ℕ) (d : Verdict) → is_verdict (m.durable_status s) d ≡ true → Sound e m → Sound e (with_answer m s d)
sound-answer e m s d h g = grind (arith, common_steps, g, durably_decided-published e m s d g h)

descriptor-answer : (m n : Memory) (s : ℕ) (d : Verdict) (t : ℕ) → t ≢ s → KeepsDescriptor m n t → KeepsDescriptor m (with_answer n s d) t
descriptor-answer m n s d t ne k = grind (arith, common_steps, k)

effect-answer : (e : ℕ → Entries) (m n : Memory) (s c : ℕ) (d : Verdict) → QuietOrEffect e m n c → QuietOrEffect e m (with_answer n s d) c
effect-answer e m n s c d q = elim q [
  | inl quiet ↦ inl (assumption quiet)
  | inr effect ↦ inr (assumption effect)
]

answer-put : (m : Memory) (s : ℕ) (d : Verdict) → (with_answer m s d).answer s ≡ Some d
answer-put m s d = grind (arith, common_steps)

-- a durable verdict is the answer
answer-is : (e : ℕ → Entries) (m : Memory) (s : ℕ) (d : Verdict) → is_verdict (m.durable_status s) d ≡ true → Sound e m → IsAnswer e (with_answer m s d) (Swapping s) (Swapped (is_success d))
answer-is e m s Succeeded h g = (answer-put m s Succeeded, h)
answer-is e m s Failed h g = (answer-put m s Failed, grind (arith, one_verdict (m.durable_status s)), g.missed s (durable_verdict-cached e m s Failed g h))

answer-own : (e : ℕ → Entries) (m : Memory) (s : ℕ) (d : Verdict) (o : Operation) → is_own o s ≡ true → is_verdict (m.durable_status s) d ≡ true → Sound e m → IsAnswer e (with_answer m s d) o (Swapped (is_success d))
answer-own e m s d Nothing b h g = absurd (grind (arith, b))
answer-own e m s d (Reading a) b h g = absurd (grind (arith, b))
answer-own e m s d (Swapping t) b h g = let same : t ≡ s = grind (arith, common_steps, b) in rw same (answer-is e m s d h g)

owner-own : (m : Memory) (w s : ℕ) (o : Operation) → is_own o s ≡ true → Owns m w o → m.owner s ≡ w
owner-own m w s Nothing b o = absurd (grind (arith, b))
owner-own m w s (Reading a) b o = absurd (grind (arith, b))
owner-own m w s (Swapping t) b o = grind (arith, common_steps, o.0)

pub good-answered : (e : ℕ → Entries) (m n : Memory) (w : ℕ) (l : Local) (d : Verdict) → Change e m n l.current → is_own l.operation l.current ≡ true → Owns m w l.operation → BackPublished n l.back → is_verdict (n.durable_status l.current) d ≡ true
    → is_verdict (m.durable_status l.current) d ≡ true → Good e m w l (answers (with_answer n l.current d) l (Swapped (is_success d)))
good-answered e m n w l d c own o b h before = record {
  sound = sound-answer e n l.current d h c.sound;
  keeps = assumption c.keeps;
  descriptors = λ t other. descriptor-answer m n l.current d t (λ same. other (grind (arith, same, owner-own m w l.current l.operation own o))) (c.descriptors t);
  effect = effect-answer e m n l.current l.current d c.effect;
  misses = assumption c.misses;
  knows = record { place = tt; owns = tt; back = b };
  answer = answer-own e n l.current d l.operation own h c.sound;
  ends = inr (none-verdict m n l.current d before h);
}
