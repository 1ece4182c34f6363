-- The acts that change a tag: to the pointer, or back to the expected value.
use Rattle.std.proofs.Common.{◌≡◌, ℕ, ◌==◌, ◌&&◌, true, arith, refl}
use Rattle.std.proofs.lemmas.Grind.{common_steps}
use Rattle.bz_word.specs.declared.kind.WordKind.{WordKind}
use Rattle.bz_word.specs.declared.kind.WordKind.TheVariants.{Value, Dirty, Swap, Tag}
use Rattle.bz_swap_machine.specs.Machine.{Entries, Memory}
use Rattle.bz_swap_machine.specs.Changes.{with_word}
use Rattle.bz_swap_machine.specs.Sound.{AreApart, Sound}
use Rattle.bz_swap_machine.specs.Facts.{Fact, FactNext}
use Rattle.bz_swap_machine.specs.Keeps.{Keeps}
use Rattle.bz_swap_machine.specs.declared.place.HelpStep.TheVariants.{Look, InstallTag, InstallPointer, RemoveTag}
use Rattle.bz_swap_machine.specs.declared.place.Next.{Next}
use Rattle.bz_swap_machine.specs.declared.place.Next.TheVariants.{Step}
use Rattle.bz_swap_machine.specs.HelpActs.{passed, after_untag}
use Rattle.bz_swap_machine.proofs.KeptFacts.{points-keeps}
use Rattle.bz_swap_machine.proofs.Fine.{Fine, fine-same, fine-if, fact-passed}
use Rattle.bz_swap_machine.proofs.DurableStatuses.{not_succeeded}
use Rattle.bz_swap_machine.proofs.Words.{Lawful, change-word}
use Rattle.bz_swap_machine.proofs.Change.{Change}
use Rattle.bz_swap_machine.proofs.Lasting.{lasts-durable}

-- a tag of the swap is changed to a word, which is lawful
pub fine-untag : (e : ℕ → Entries) (m : Memory) (w s i u q : ℕ) (new : WordKind) (changed unchanged : Next) (found : WordKind) → m.cached ((e s).target i) ≡ found → Sound e m → FactNext e m w s unchanged
    → (m.cached ((e s).target i) ≡ Tag s i u q → Lawful e m ((e s).target i) new m.next_tag × (Keeps e m (with_word m ((e s).target i) new) → FactNext e (with_word m ((e s).target i) new) w s changed))
    → Fine e m w s (after_untag (e s) m s i u q new changed unchanged found)
fine-untag e m w s i u q new changed unchanged (Value v) h g f k = fine-same e m w s unchanged g f
fine-untag e m w s i u q new changed unchanged (Dirty v) h g f k = fine-same e m w s unchanged g f
fine-untag e m w s i u q new changed unchanged (Swap t) h g f k = fine-same e m w s unchanged g f
fine-untag e m w s i u q new changed unchanged (Tag t j v p) h g f k = fine-if e m w s (((t == s) && (j == i)) && ((v == u) && (p == q))) _ _
    (λ b. let eq : m.cached ((e s).target i) ≡ Tag s i u q = grind (arith, common_steps) in
    let c : Change e m (with_word m ((e s).target i) new) s = change-word e m _ new s (k eq).0 g in
    record { change = c; fact = (k eq).1 c.keeps })
    (λ b. fine-same e m w s unchanged g f)

-- the tag becomes the pointer: both stand for the expected value, since the swap has not succeeded
pub lawful-pointer : (e : ℕ → Entries) (m : Memory) (w s i u q : ℕ) → AreApart e → m.published s ≡ true → Fact e m w s (InstallPointer i u q) → Sound e m → m.cached ((e s).target i) ≡ Tag s i u q
    → Lawful e m ((e s).target i) (Swap s) m.next_tag
lawful-pointer e m w s i u q o p f g h = grind (arith, common_steps, g.targets s i f.0, not_succeeded (m.status s) (m.durable_status s) (g.follows s (m.durable_status s) (lasts-durable _ _) p) (f.3 h), o s i f.0)

-- the tag becomes the expected value
pub lawful-expected : (e : ℕ → Entries) (m : Memory) (s i u q : ℕ) → m.named ((e s).target i) ≡ true → m.cached ((e s).target i) ≡ Tag s i u q → Lawful e m ((e s).target i) (Value ((e s).expected i)) m.next_tag
lawful-expected e m s i u q nm h = grind (arith, common_steps)

pub fine-install_pointer : (e : ℕ → Entries) (m : Memory) (w s i u q : ℕ) → AreApart e → m.published s ≡ true → Fact e m w s (InstallPointer i u q) → Sound e m
    → Fine e m w s (after_untag (e s) m s i u q (Swap s) (Step (passed (e s) i)) (Step (InstallTag i)) (m.cached ((e s).target i)))
fine-install_pointer e m w s i u q o p f g = fine-untag e m w s i u q (Swap s) (Step (passed (e s) i)) (Step (InstallTag i)) _ refl g (f.0, f.1)
    (λ h. (lawful-pointer e m w s i u q o p f g h, λ k. fact-passed e (with_word m ((e s).target i) (Swap s)) w s i f.0 (points-keeps e m _ s i k p (omega arith) f.1) (grind (arith, common_steps))))

pub fine-remove_tag : (e : ℕ → Entries) (m : Memory) (w s i u q : ℕ) → Fact e m w s (RemoveTag i u q) → Sound e m
    → Fine e m w s (after_untag (e s) m s i u q (Value ((e s).expected i)) (Step Look) (Step Look) (m.cached ((e s).target i)))
fine-remove_tag e m w s i u q f g = fine-untag e m w s i u q (Value ((e s).expected i)) (Step Look) (Step Look) _ refl g tt (λ h. (lawful-expected e m s i u q (g.targets s i f) h, λ k. tt))
