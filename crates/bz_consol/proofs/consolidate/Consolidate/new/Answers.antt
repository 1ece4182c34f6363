use Rattle.std.proofs.Common.{◌≡◌, sym, subst, ◌∙◌, Some}
use Rattle.bz_task.specs.declared.path.Link.{Link}
use Rattle.bz_consol.specs.Facts.{WasTurned}
use Rattle.bz_consol.proofs.Viewing.{has-viewed}
use Rattle.bz_consol.proofs.consolidate.Consolidate.new.Goals as goal

pub returns-clause-facts : goal.returns-clause-facts
returns-clause-facts c key s same good path view = has-viewed c.views_show_frozen_leaves.ensures key c.args.path c.args.view c.last_link.result c.copy_of-image.result.0 s good path view c.requires.frozen c.requires.leads c.last_link.ensures c.is_whole.ensures c.copy_of-image.ensures.plain c.copy_of-image.ensures.alike

pub returns-clause-done : goal.returns-clause-done
returns-clause-done c link s is means =
    let same : c.last_link.result ≡ link = one c.last_link.result link (sym c.last_link.ensures ∙ is) in
    record { image = c.copy_of-image.result.0; made = c.copy_of-image.ensures.made; turned = subst (λ (z : Link). WasTurned z c.copy_of-image.result.0 s.past) same means }
  where
    one : (a b : Link) → Some a ≡ Some b → a ≡ b
    one a b e = cc

pub returns-clause-slot : goal.returns-clause-slot
returns-clause-slot c = (c.requires.leads c.last_link.result c.last_link.ensures).0
