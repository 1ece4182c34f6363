-- The guard of a link is a status word.
use Rattle.std.proofs.Common.{◌≤◌, ◌⊎◌, ℕ, arith, inl, inr}
use Rattle.bz_task.specs.Outcomes.{IsUnderRoot, IsUnderNode, IsGuarded}
use Rattle.bz_task.specs.Requests.{IsStatusWord}
use Rattle.bz_task.specs.Scene.{Scene}
use Rattle.bz_task.specs.declared.path.Link.{Link}

pub guards-status : (s : Scene) (link : Link) (m : ℕ) → s.past.since ≤ m → m ≤ s.past.now → IsUnderRoot link ⊎ IsUnderNode s.past link m → IsStatusWord s link.guard
guards-status s link m since now (inl root) = inl root.guard
guards-status s link m since now (inr node) = inr (record { slot = node.parent; address = node.guard; moment = m; since = since; now = now; reached = node.reached })

pub guard-is-status : (s : Scene) (link : Link) → IsGuarded s.past link → IsStatusWord s link.guard
guard-is-status s link g = guards-status s link g.guarded g.since (omega (arith, g.order, g.now)) g.under
