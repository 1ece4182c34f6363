-- A look-up of a key in a leaf goes on: what it looks at again is as it was.
use Rattle.std.proofs.Common.{◌≡◌, ◌+◌, sym, ap, ◌∙◌}
use Rattle.std.proofs.lemmas.Bool.{true≢false}
use Rattle.bz_layout.specs.Addresses.{node_address}
use Rattle.bz_layout.specs.declared.config.Config.{Config}
use Rattle.bz_layout.specs.declared.sizes.TheConstants.{STATUS_AT}
use Rattle.bz_task.specs.Outcomes.{IsPath}
use Rattle.bz_task.specs.Scene.{Scene, Waiting, IsScene, here}
use Rattle.bz_leaf.specs.Facts.{IsLastLink}
use Rattle.bz_any_task.specs.FromFind.Facts.{find_facts, find_differs}
use Rattle.bz_any_task.specs.FromFind.Phases.{find_asks}
use Rattle.bz_any_task.specs.FromFind.Find.{Find}
use Rattle.bz_any_task.specs.FromFind.FindPhase.{FindPhase}
use Rattle.bz_any_task.specs.FromFind.FindPhase.TheVariants.{Again, Link as Of_link, Guard}
use Rattle.bz_undisturbed.specs.Undisturbed.{GoesOn}
use Rattle.bz_undisturbed.specs.Lookups.{FindsGoOn}
use Rattle.bz_undisturbed.specs.Quiet.{IsQuietSince}
use Rattle.bz_undisturbed.proofs.Going.{idles, reads}
use Rattle.bz_undisturbed.proofs.LastLinks.{status-again, link-again, guard-thawed}
use Rattle.bz_undisturbed.proofs.Quiet.{undisturbed}

module _ (s : Scene) (good : IsScene s) (q : IsQuietSince s.past.since s.past) (t : Find) (same : s.past.config ≡ t.config) (is : IsPath t.key t.path s.past) (last : IsLastLink t.path t.link) where
  -- the address of the status, in the memory of the task
  status-there : (c : Config) → s.past.config ≡ c → (here s).value (node_address c t.link.slot + STATUS_AT) ≡ (here s).value (node_address s.past.config t.link.slot + STATUS_AT)
  status-there c e = ap (λ z. (here s).value (node_address z t.link.slot + STATUS_AT)) (sym e)

  goes : (phase : FindPhase) → find_facts t phase Waiting s → GoesOn (find_asks t phase) (find_differs t phase) s
  goes Again f =
      let o = f.1.opened in
      reads (node_address t.config t.link.slot + STATUS_AT) (find_differs t Again) s (λ v a d. d (sym a.value ∙ (status-there t.config same ∙ (status-again s good q t.key t.link o.ws _ o.reading ∙ o.status))))
  goes Of_link f = reads t.link.link (find_differs t Of_link) s (λ v a d. d (sym a.value ∙ link-again s good q t.key t.link f.1.opened.reading.known))
  goes (Guard at) f = reads t.link.guard (find_differs t (Guard at)) s (λ v a d. true≢false (sym d ∙ guard-thawed s good q t.link v a t.key t.path is last))
  goes phase f = idles _ (find_differs t phase) s (λ entries e. absurd (cc)) (λ seen d. d)

pub finds-go-on : FindsGoOn
finds-go-on t s same good f a = goes s good (undisturbed.whole s good a) t same f.1 f.3 t.phase f.0
