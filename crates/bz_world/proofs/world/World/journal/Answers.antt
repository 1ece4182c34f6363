use Rattle.std.proofs.Common.{◌≡◌, ◌<◌, subst}
use Rattle.bz_mark.specs.declared.power.Power.{Power}
use Rattle.bz_mark.specs.declared.power.Power.TheVariants.{Recovering, On}
use Rattle.bz_sound.specs.Memory.Sound as before
use Rattle.bz_sound.specs.Power.Laws.{IsUnbroken}
use Rattle.bz_sound.specs.Power.Sound.{IsSound}
use Rattle.bz_sound.proofs.Proved.{sound_as_before}
use Rattle.bz_world.specs.Numbers.{AreNumbersKept}
use Rattle.bz_world.specs.Taken.{TellsAsShown}
use Rattle.bz_world.specs.WorldView.{WorldView, power_in, recovery_acts, recovery_most, AreFinishing}
use Rattle.bz_world.proofs.Finishing.{are-finishing}
use Rattle.bz_world.proofs.Powered.{few-acts}
use Rattle.bz_world.proofs.world.World.journal.Goals as goal

pub returns-clause-sound : goal.returns-clause-sound
returns-clause-sound c = subst (λ (l : WorldView). IsSound l.config l.at_start l.log) c.self.view_is c.self.invariant.kept.sound

pub returns-clause-numbers : goal.returns-clause-numbers
returns-clause-numbers c = subst (λ (l : WorldView). AreNumbersKept l.config l.at_start l.log) c.self.view_is (record { leaves = c.self.invariant.kept.leaves; taken = c.self.invariant.tells.ends; merged = c.self.invariant.tells.merges; brief = c.self.invariant.brief })

pub returns-clause-bounded : goal.returns-clause-bounded
returns-clause-bounded c = subst (λ (l : WorldView). power_in l ≡ Recovering → recovery_acts l < recovery_most l.config) c.self.view_is (few-acts c.self.inside.parts c.self.invariant.kept)

pub returns-clause-unbroken : goal.returns-clause-unbroken
returns-clause-unbroken c =
    let k = c.self.invariant.kept in
    subst (λ (l : WorldView). l.at_start ≡ On → IsUnbroken l.log.past → before.IsSound l.config l.log) c.self.view_is
    (λ on never. (sound_as_before c.self.inside.parts.config c.self.inside.parts.journal).1 (never, subst (λ (s : Power). IsSound c.self.inside.parts.config s c.self.inside.parts.journal) on k.sound))

pub returns-clause-finishing : goal.returns-clause-finishing
returns-clause-finishing c = subst AreFinishing c.self.view_is (are-finishing c.self.inside.parts c.self.invariant.kept)

pub returns-clause-shown : goal.returns-clause-shown
returns-clause-shown c = subst TellsAsShown c.self.view_is c.supply_is_shown.ensures
