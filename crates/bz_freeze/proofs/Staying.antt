-- What a freeze knows stays.
use Rattle.std.proofs.Common.{ℕ, ◌<◌, arith, sym, subst, ◌∙◌}
use Rattle.bz_layout.specs.declared.sizes.TheConstants.{STATUS_AT}
use Rattle.bz_task.specs.Instant.{words, page_at, is_inside, form_at}
use Rattle.bz_task.specs.Scene.{Past, Scene, Stage, Waiting, Took, IsLawful, Continues, HasFilled}
use Rattle.bz_freeze.specs.Facts.{WasLeaf, WasFrozen, freeze_facts}
use Rattle.bz_freeze.specs.declared.phase.FreezePhase.{FreezePhase}
use Rattle.bz_freeze.specs.declared.phase.FreezePhase.TheVariants.{Fresh, Swap, Done, Restart, Full}

module _ (p q : Past) (c : Continues p q) where
  leaf-stays : (k st : ℕ) → WasLeaf k st p → WasLeaf k st q
  leaf-stays k st w = record {
    moment = w.moment;
    since = omega (arith, w.since, c.since);
    now = omega (arith, w.now, c.now);
    slot = subst (λ z. k < z.nodes) (sym c.config) w.slot;
    inside = (λ t. is_inside (c.config t) (c.at w.moment w.now t) k) ∙ w.inside;
    leaf = (λ t. (form_at (c.config t) (c.at w.moment w.now t)).level k) ∙ w.leaf;
    was = (λ t. words (c.config t) (c.at w.moment w.now t) k STATUS_AT) ∙ w.was;
    thawed = w.thawed;
    plain = w.plain;
  }

  frozen-stays : (k : ℕ) → WasFrozen k p → WasFrozen k q
  frozen-stays k w = record {
    moment = w.moment;
    since = omega (arith, w.since, c.since);
    now = omega (arith, w.now, c.now);
    reached = (λ t. (c.at w.moment w.now t).reached k) ∙ w.reached;
    frozen = (λ t. (page_at (c.config t) (c.at w.moment w.now t) k).frozen) ∙ w.frozen;
  }

module _ (k st : ℕ) (s after : Scene) (l : IsLawful s after) where
  filled : HasFilled s → HasFilled after
  filled f j h = l.filled j ∙ f j (sym (l.took j) ∙ h)

  pub stable : (phase : FreezePhase) (stage : Stage) → freeze_facts k st phase stage s → freeze_facts k st phase stage after
  stable Fresh Waiting f = leaf-stays s.past after.past l.continues k st f
  stable Swap Waiting f = (filled f.0, leaf-stays s.past after.past l.continues k st f.1)
  stable Swap Took f = (filled f.0, frozen-stays s.past after.past l.continues k f.1)
  stable Done Waiting f = (filled f.0, frozen-stays s.past after.past l.continues k f.1)
  stable Restart Waiting f = filled f
  stable Full Waiting f = filled f
  stable Fresh Took f = absurd (f)
  stable Done Took f = absurd (f)
  stable Restart Took f = absurd (f)
  stable Full Took f = absurd (f)
