-- What a delete tries once the merge of its leaf is over: the merge of the inner node under the root, and the lowering of the root.
use Rattle.std.proofs.Common.{◌≡◌, ◌≢◌, ◌+◌, ℕ, true, false, List, refl, sym, ap, ◌∙◌, inl, inr, Option, None}
use Rattle.std.proofs.lemmas.Bool.{true≢false}
use Rattle.bz_call.specs.Map.{key_of}
use Rattle.bz_any_task.specs.Duties.{facts_of}
use Rattle.bz_any_task.specs.Hearing.{IsLookup}
use Rattle.bz_any_task.specs.Kinds as kinds
use Rattle.bz_any_task.specs.Kinds.{Kind, is_renewal}
use Rattle.bz_any_task.specs.declared.running.AnyTask.{AnyTask}
use Rattle.bz_solo.specs.Prices.{coming}
use Rattle.bz_solo.specs.declared.rest.Rest.TheVariants as rest
use Rattle.bz_task.specs.Outcomes.{IsPath}
use Rattle.bz_task.specs.Scene.{Scene, IsScene, Waiting}
use Rattle.bz_task.specs.declared.path.Path.{Path}
use Rattle.bz_world.specs.Inside.Exact.{reach_idle}
use Rattle.bz_world.specs.Inside.Going.{HadNoRoom, HasFoundAfter, MustTakeOn, known}
use Rattle.bz_world.specs.Inside.Laws.{UndisturbedLaws}
use Rattle.bz_world.specs.Inside.Meant.{IsMeant, tries_later}
use Rattle.bz_world.specs.Inside.Merging.{IsMerging, IsOver, MergesDuly}
use Rattle.bz_world.specs.Inside.Paid.{errand_of, stock_of, HasToSpare}
use Rattle.bz_world.specs.Inside.Solitary.{IsNotSolitary}
use Rattle.bz_world.specs.WorldView.{is_delete}
use Rattle.bz_world.specs.declared.parts.Parts.{Parts}
use Rattle.bz_world.proofs.Exactly.{counted}
use Rattle.bz_world.proofs.MakingAnew.{IsFresh}
use Rattle.bz_world.proofs.Spared.{most_in, task-paid}
use Rattle.bz_world.proofs.TakingOn.{known-scene, lookup-taken}

-- one of these two
abbrev pub IsLevelKind : Kind → Type 0
IsLevelKind k = (tries_later k ≡ true) × (k ≢ kinds.Seek)

module _ (p : Parts) (w at : ℕ) (path : Path) (f : HasFoundAfter p w at path) (later : f.had.on.serving.rest ≢ rest.Leaf) where
  -- it comes only where there was no room
  pub level-roomless : HadNoRoom p w f.had.on
  level-roomless solitary room = later (counted p w f.had.on (λ none. cc (f.had.effect, none)) solitary room).unpassed

  pub level-other : IsNotSolitary p.journal.past w f.had.on.serving.call
  level-other key get solitary = true≢false (sym f.deletes ∙ ap is_delete get)

  -- the way to its leaf was found, and the merge of that is over
  was-over : (then : ℕ) → IsMerging p.config p.journal then (known p w f.had.on).past (reach_idle p.access) (stock_of p) f.had.on.serving → IsOver p.config p.journal then (known p w f.had.on).past f.had.on.serving
  was-over then (inl s) = absurd (elim s.task [
    | inl tells ↦ cc (tells.kind, f.kind)
    | inr look ↦ later (look.first f.kind)
  ])
  was-over then (inr (inl u)) = absurd (cc (u.kind, f.kind))
  was-over then (inr (inr (inl d))) = absurd (cc (d.kind, f.kind))
  was-over then (inr (inr (inr o))) = o

  module _ (task : AnyTask) (k : Kind) (fresh : IsFresh p.config task k) (is : IsLevelKind k) where
    pub level-meant : IsMeant (record f.had.on.serving { task = task; path = None }) (known p w f.had.on).past
    level-meant = record {
      within = fresh.within;
      look = λ quiet. absurd (cc (f.had.effect, quiet));
      fit = record { words = f.had.on.fit.words; thawed = f.had.on.fit.thawed; quiet = f.had.on.fit.quiet };
      first = λ other. absurd (true≢false (sym (ap tries_later fresh.kind ∙ is.0) ∙ other));
      meant = λ quiet. absurd (cc (f.had.effect, quiet));
      later = λ moment had. ap is_renewal fresh.kind ∙ no-renewal k is;
      small = λ merge. absurd (true≢false (sym is.0 ∙ ap tries_later (sym fresh.kind ∙ merge)));
      copied = λ copy. absurd (true≢false (sym is.0 ∙ ap tries_later (sym fresh.kind ∙ copy)));
    }
      where
        no-renewal : (k : Kind) → IsLevelKind k → is_renewal k ≡ false
        no-renewal kinds.Seek i = refl
        no-renewal kinds.MergeNodes i = refl
        no-renewal kinds.LowerRoot i = refl
        no-renewal k i = absurd (true≢false (sym i.0))

    pub level-duly : MergesDuly p.config p.journal w f.had.on.between.opened (known p w f.had.on).past (reach_idle p.access) (stock_of p) (record f.had.on.serving { task = task; path = None })
    level-duly solitary = record {
      looking = λ quiet seek. absurd (cc (f.had.effect, quiet));
      deleting = λ quiet delete going. absurd (cc (f.had.effect, quiet));
      merging = λ then had deletes. let m = (f.had.on.merges solitary).merging then had deletes in record {
        after_begin = m.after_begin;
        by_now = m.by_now;
        merging = λ may. let o = was-over then (m.merging may) in inr (inr (inr (record { later = o.later; moment = o.moment; after = o.after; stood = o.stood; over = o.over })));
      };
    }

    -- so its worker may take it on
    abbrev pub level-taken : UndisturbedLaws → ((key : List ℕ) (way : Option Path) → IsLookup key way task) → ((key : List ℕ) (s : Scene) → s.past.config ≡ p.config → IsScene s → IsPath key path s.past → facts_of task Waiting s)
        → HasToSpare p w f.had.on.serving (known p w f.had.on).past (λ r q. most_in r k + coming r q (errand_of f.had.on.serving) k) → MustTakeOn p w task None f.had.on.serving.had None
    level-taken solo lookup facts spares =
        lookup-taken p w f.had.on (inr f.deletes) task None None (key_of f.had.on.serving.call) fresh.config fresh.laws fresh.silent (lookup (key_of f.had.on.serving.call) None) (λ none. lookup (key_of f.had.on.serving.call)) refl fresh.asks
        (facts (key_of f.had.on.serving.call) (known p w f.had.on) refl (known-scene solo.scenes p w f.had.on) f.leads)
        (λ quiet some other. absurd (cc (sym f.had.on.between.call_open.effect ∙ quiet, f.had.effect)))
        (λ key get solitary. absurd (level-other key get solitary)) level-meant
        (task-paid solo.rounds p w f.had.on task None f.had.on.serving.had k fresh.kind fresh.laws fresh.asks fresh.made level-meant (λ quiet merge. absurd (cc (f.had.effect, quiet))) spares)
        (λ quiet solitary. absurd (cc (f.had.effect, quiet)))
        (λ solitary room. absurd (level-roomless solitary room))
        level-duly
