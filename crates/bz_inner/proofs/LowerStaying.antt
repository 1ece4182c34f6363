-- What a lowering knows stays.
use Rattle.std.proofs.Common.{ℕ, ◌+◌, ◌<◌, Bool, true, false, arith, sym, ap, subst, ◌∙◌, inl, inr}
use Rattle.bz_layout.specs.declared.config.Config.{Config}
use Rattle.bz_layout.specs.declared.sizes.TheConstants.{STATUS_AT, ROOT_AT}
use Rattle.bz_task.specs.Instant.{Instant, words, page_at, form_at}
use Rattle.bz_task.specs.Scene.{Past, Scene, Stage, Waiting, Took, IsLawful, Continues, HasFilled}
use Rattle.bz_task.specs.declared.path.Link.{Link}
use Rattle.bz_branch.proofs.Staying.{child-stays, guard-stays, under-stays}
use Rattle.bz_inner.specs.Lone.{HasOneChild}
use Rattle.bz_inner.specs.LowerFacts.{Lowering, IsLinkIn, HasLoneRoot, WasNotLone, WasLowered, lower_begins, lower_facts}
use Rattle.bz_inner.specs.declared.lower_phase.LowerPhase.{LowerPhase}
use Rattle.bz_inner.specs.declared.lower_phase.LowerPhase.TheVariants.{Fresh, Status, Swap, Done, Restart, NotLone, NoSwap}

module _ (p q : Past) (c : Continues p q) where
  link-stays : (k : ℕ) (link : Link) → IsLinkIn k link p → IsLinkIn k link q
  unfolding guard-stays under-stays child-stays
  link-stays k link o = record { guard = guard-stays p q c link o.guard; under = under-stays p q c link o.guard.guarded (omega (arith, o.guard.order, o.guard.now)) o.under; parent = o.parent }

  root-stays : (upper lower : Link) → HasLoneRoot upper lower p → HasLoneRoot upper lower q
  root-stays upper lower v = record {
    under = v.under;
    guard = guard-stays p q c upper v.guard;
    node = link-stays upper.slot lower v.node;
    slot = subst (λ (z : Config). lower.slot < z.nodes) (sym c.config) v.slot;
    one = v.one;
  }

  other-stays : (k : ℕ) → WasNotLone k p → WasNotLone k q
  other-stays k v = record {
    read = v.read;
    read_since = omega (arith, v.read_since, c.since);
    read_now = omega (arith, v.read_now, c.now);
    root = ap (λ (x : Instant). x.value ROOT_AT) (c.at v.read v.read_now) ∙ v.root;
    moment = v.moment;
    since = omega (arith, v.since, c.since);
    now = omega (arith, v.now, c.now);
    reached = ap (λ (x : Instant). x.reached k) (c.at v.moment v.now) ∙ v.reached;
    other = elim v.other [
      | inl flat ↦ inl ((λ t. (page_at (c.config t) (c.at v.moment v.now t) k).level) ∙ flat)
      | inr none ↦ inr (λ h. none (subst HasOneChild (λ t. words (c.config t) (c.at v.moment v.now t) k STATUS_AT) h))
    ];
  }

  lowered-stays : (upper lower : Link) → WasLowered upper lower p → WasLowered upper lower q
  lowered-stays upper lower v = record {
    before = v.before;
    since = omega (arith, v.since, c.since);
    now = omega (arith, v.now, c.now);
    was = ap (λ (x : Instant). x.value ROOT_AT) (c.at v.before (omega (arith, v.now))) ∙ v.was;
    one = (λ t. (page_at (c.config t) (c.at v.before (omega (arith, v.now)) t) upper.slot).count) ∙ v.one;
    child = (λ t. (form_at (c.config t) (c.at v.before (omega (arith, v.now)) t)).up lower.slot) ∙ v.child;
    led = ap (λ (x : Instant). x.value ROOT_AT) (c.at (v.before + 1) v.now) ∙ v.led;
    frozen = (λ t. (page_at (c.config t) (c.at (v.before + 1) v.now t) upper.slot).frozen) ∙ v.frozen;
  }

  begins-stay : (lone : Bool) (upper lower : Link) → lower_begins lone upper lower p → lower_begins lone upper lower q
  begins-stay true upper lower v = root-stays upper lower v
  begins-stay false upper lower v = other-stays upper.slot v

module _ (r : Lowering) (s after : Scene) (l : IsLawful s after) where
  filled : HasFilled s → HasFilled after
  filled f j h = l.filled j ∙ f j (sym (l.took j) ∙ h)

  pub stable : (phase : LowerPhase) (stage : Stage) → lower_facts r phase stage s → lower_facts r phase stage after
  stable Fresh Waiting f = begins-stay s.past after.past l.continues r.lone r.upper r.lower f
  stable Status Waiting f = (filled f.0, (f.1.0, root-stays s.past after.past l.continues r.upper r.lower f.1.1))
  stable Swap Waiting f = (filled f.0, (f.1.0, (root-stays s.past after.past l.continues r.upper r.lower f.1.1.0, f.1.1.1)))
  stable Swap Took f = (filled f.0, (f.1.0, lowered-stays s.past after.past l.continues r.upper r.lower f.1.1))
  stable Done Waiting f = (filled f.0, (f.1.0, lowered-stays s.past after.past l.continues r.upper r.lower f.1.1))
  stable Restart Waiting f = (filled f.0, f.1)
  stable NotLone Waiting f = (filled f.0, (f.1.0, other-stays s.past after.past l.continues r.upper.slot f.1.1))
  stable NoSwap Waiting f = (filled f.0, f.1)
  stable Fresh Took f = absurd (f)
  stable Status Took f = absurd (f)
  stable Done Took f = absurd (f)
  stable Restart Took f = absurd (f)
  stable NotLone Took f = absurd (f)
  stable NoSwap Took f = absurd (f)
