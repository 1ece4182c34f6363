use Rattle.std.proofs.Common.{◌≡◌, true, false, refl, ap, map, Bor, rules}
use Rattle.bz_cli.specs.CommandLine.{Text}
use Rattle.bz_cli.proofs.SayLemmas.{say-first, say-behind, behind-say, say-parted}
use Rattle.bz_cli.proofs.arrangement.+say.Goals as goal

pub returns-then-say_first : goal.returns-then-say_first
returns-then-say_first t c = (λ e. say-first _ _ _ (c.say_first.ensures.0 (search rules)), λ h. refl)

pub returns-then-is_text : goal.returns-then-is_text
returns-then-is_text t c =
    let are = ap (map (λ (w : Bor Text). w.now)) c.in-Some.ensures.cases.0 in
    let values_are = ap (map (λ (v : Bor Text). v.now)) c.in-Some-split_first.ensures.cases.0 in (
      λ said. say-behind _ _ _ _ _ _ _ are values_are (λ first. let bad : false ≡ true = rw c.if-say_first.false at (c.say_first.ensures.1 first) in cc) (c.is_text.ensures.0 c.if-is_text.true) (c.say.ensures.0 said),
      λ h. c.say.ensures.1 (behind-say _ _ _ _ _ _ _ are values_are (λ first. let bad : false ≡ true = rw c.if-say_first.false at (c.say_first.ensures.1 first) in cc) h),
    )

pub returns-else-is_text : goal.returns-else-is_text
returns-else-is_text t c =
    let are = ap (map (λ (w : Bor Text). w.now)) c.in-Some.ensures.cases.0 in
    let values_are = ap (map (λ (v : Bor Text). v.now)) c.in-Some-split_first.ensures.cases.0 in (
      λ said. let bad : false ≡ true = rw c.if-is_text.false at said in absurd cc,
      λ h. absurd (say-parted _ _ _ _ _ _ _ are values_are (λ first. let bad : false ≡ true = rw c.if-say_first.false at (c.say_first.ensures.1 first) in cc)
          (λ same. let bad : false ≡ true = rw c.if-is_text.false at (c.is_text.ensures.1 same) in cc) h),
    )
