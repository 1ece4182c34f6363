-- The Effect of an open call: the map before it stays.
use Rattle.std.proofs.Common.{◌≡◌, ◌∷◌, ap, ◌∙◌, arith}
use Rattle.bz_call.specs.Map.{Map, apply}
use Rattle.bz_mark.proofs.MomentLaws.{at_moment-earlier}
use Rattle.bz_sound.specs.Calls.{map_after, map_at}
use Rattle.bz_sound.specs.Memory.OpenCallLaws.{EffectsStayOpen}
use Rattle.bz_sound.proofs.Memory.Ended.{IsInside, inside}

pub effects-stay : EffectsStayOpen
effects-stay start past mark w at opened is took =
    let h : IsInside _ opened at = inside w past opened at is took in
    let same : map_at start at (mark ∷ past) ≡ map_at start at past = ap (map_after start) (at_moment-earlier at mark past (omega (arith, h.before_now))) in
    record { same_map = same; same_reply = λ reply answers. ap (λ (map : Map). (apply map opened.call).reply) same ∙ answers }
