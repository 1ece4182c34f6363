-- The acts that put a tag in and look at the status under it.
use Rattle.std.proofs.Common.{◌≡◌, ◌≢◌, ℕ, ◌==◌, true, arith}
use Rattle.std.proofs.lemmas.Grind.{common_steps}
use Rattle.bz_word.specs.declared.kind.WordKind.{WordKind}
use Rattle.bz_word.specs.declared.kind.WordKind.TheVariants.{Value, Dirty, Swap, Tag}
use Rattle.bz_swap_machine.specs.declared.status.SwapStatus.{SwapStatus}
use Rattle.bz_swap_machine.specs.declared.status.SwapStatus.TheVariants.{Free, Undecided, Deciding, Decided}
use Rattle.bz_swap_machine.specs.declared.status.Verdict.TheVariants.{Failed}
use Rattle.bz_swap_machine.specs.Machine.{Entries, Memory, is_succeeded}
use Rattle.bz_swap_machine.specs.Changes.{with_tag, with_miss}
use Rattle.bz_swap_machine.specs.Sound.{Follows, Sound}
use Rattle.bz_swap_machine.specs.Facts.{Fact}
use Rattle.bz_swap_machine.specs.declared.place.HelpStep.TheVariants.{InstallTag, LookUnderTag, InstallPointer, RemoveTag, AskDirty, Decide}
use Rattle.bz_swap_machine.specs.declared.place.Next.TheVariants.{Step, Meet}
use Rattle.bz_swap_machine.specs.HelpActs.{stays, passed, after_install_tag, after_look_under}
use Rattle.bz_swap_machine.proofs.Change.{Change}
use Rattle.bz_swap_machine.proofs.Misses.{change-miss}
use Rattle.bz_swap_machine.proofs.Words.{change-tag}
use Rattle.bz_swap_machine.proofs.KeptFacts.{points-keeps}
use Rattle.bz_swap_machine.proofs.Fine.{Fine, fine-same, fine-if, fact-if, fact-passed}
use Rattle.bz_swap_machine.proofs.Lasting.{lasts-durable}

-- a success in durable memory is one in the cache
not-undecided : (c k : SwapStatus) → Follows c k → is_succeeded k ≡ true → c ≢ Undecided
not-undecided c k f h = grind arith

noted : (e : ℕ → Entries) (m : Memory) (w s : ℕ) → m.published s ≡ true → Sound e m → Fact e (with_miss m s) w s (Decide Failed)
noted e m w s p g = λ u. grind (arith, common_steps, not-undecided (m.status s) (m.durable_status s) (g.follows s (m.durable_status s) (lasts-durable _ _) p))

pub fine-install_tag : (e : ℕ → Entries) (m : Memory) (w s i : ℕ) (found : WordKind) → m.cached ((e s).target i) ≡ found → m.published s ≡ true → Fact e m w s (InstallTag i) → Sound e m
    → Fine e m w s (after_install_tag (e s) m w s i found)
fine-install_tag e m w s i (Value v) h p f g = fine-if e m w s (v == (e s).expected i) _ _
    (λ b. let eq : m.cached ((e s).target i) ≡ Value ((e s).expected i) = grind (arith, common_steps) in
    let c : Change e m (with_tag m ((e s).target i) s i w) s = change-tag e m s i w p f.0 eq g in
    record { change = c; fact = (f.0, points-keeps e m _ s i c.keeps p (omega arith) f.1, grind (arith, common_steps)) })
    (λ b. record { change = change-miss e m s i v p f.0 h (grind (arith, common_steps)) g; fact = noted e m w s p g })
fine-install_tag e m w s i (Dirty v) h p f g = fine-same e m w s (Step (AskDirty i v)) g f
fine-install_tag e m w s i (Swap t) h p f g = fine-same e m w s _ g
    (fact-if e m w s (t == s) (Step (passed (e s) i)) (Meet t) (λ b. fact-passed e m w s i f.0 f.1 (grind (arith, common_steps))) (λ b. (g.pointer _ t h).standing))
fine-install_tag e m w s i (Tag t j v q) h p f g = fine-same e m w s _ g
    (fact-if e m w s (t == s) (Step (LookUnderTag i v q)) (Meet t) (λ b. (f.0, f.1, g.fresh _ t j v q h)) (λ b. (g.tag _ t j v q h).standing))

pub fine-look_under : (e : ℕ → Entries) (m : Memory) (w s i u q : ℕ) (found : SwapStatus) → m.status s ≡ found → Fact e m w s (LookUnderTag i u q) → Sound e m → Fine e m w s (stays m (after_look_under i u q found))
fine-look_under e m w s i u q Free h f g = fine-same e m w s (Step (RemoveTag i u q)) g f.0
fine-look_under e m w s i u q Undecided h f g = fine-same e m w s (Step (InstallPointer i u q)) g (f.0, f.1, f.2, λ k. grind arith)
fine-look_under e m w s i u q (Deciding d) h f g = fine-same e m w s (Step (RemoveTag i u q)) g f.0
fine-look_under e m w s i u q (Decided d) h f g = fine-same e m w s (Step (RemoveTag i u q)) g f.0
