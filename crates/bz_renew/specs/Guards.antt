-- The guard of a link, looked at once more before slots are taken: where it is another one by then, the swap cannot succeed.
use Rattle.std.specs.Prelude.{◌≡◌, ℕ, ◌≤◌, true}
use Rattle.bz_task.specs.Scene.{Past}
use Rattle.bz_task.specs.declared.path.Link.{Link}

-- at a moment from m on a load of the task's own found the guard as the link names it
pub record WasAsRead (link : Link) (m : ℕ) (p : Past) : Type 0 where
  pub again : ℕ
  pub order : m ≤ again
  pub now : again ≤ p.now
  pub loads : p.loads again ≡ true
  pub value : (p.at again).value link.guard ≡ link.status
