-- Images of a configuration are those of its area.
use Rattle.std.proofs.Common.{◌≡◌, ℕ, sym, ◌∙◌, subst}
use Rattle.bz_layout.specs.declared.config.Config.{Config}
use Rattle.bz_sweep.specs.Areas.{area_of}
use Rattle.bz_sweep.specs.Knowledge.{ResolvesSome as ResolvesSomeIn}
use Rattle.bz_sweep.specs.Memory.{Memory}
use Rattle.bz_sweep.specs.Words.{IsImage as IsImageIn, IsPoweredOn as IsPoweredOnIn}
use Rattle.bz_sweep.specs.declared.area.Area.{Area}
use Rattle.bz_sweep.proofs.Proved.{lawful_words_are_these}
use Rattle.bz_recover.specs.Contents.{ResolvesSome}
use Rattle.bz_recover.specs.Sweep.{IsImage, IsPoweredOn}

pub of-area : (c : Config) (v x : ℕ → ℕ) → IsImageIn (area_of c) v x → IsImage c v x
of-area c v x h = record { lawful = λ a l. sym (lawful_words_are_these c x a) ∙ h.lawful a l; resolved = h.resolved }

pub to-area : (c : Config) (v x : ℕ → ℕ) → IsImage c v x → IsImageIn (area_of c) v x
to-area c v x h = record { lawful = λ a l. lawful_words_are_these c x a ∙ h.lawful a l; resolved = h.resolved }

pub powered-of : (c : Config) (v : ℕ → ℕ) (m : Memory) → IsPoweredOnIn (area_of c) v m → IsPoweredOn c v m
powered-of c v m h = record { image = of-area c v m.durable h.image; same = h.same }

-- of an area that is that of a configuration
pub image-of : (r : Area) (c : Config) (v x : ℕ → ℕ) → r ≡ area_of c → IsImageIn r v x → IsImage c v x
image-of r c v x is h = of-area c v x (subst (λ (z : Area). IsImageIn z v x) is h)

pub resolves-of : (r : Area) (c : Config) (v x y : ℕ → ℕ) → r ≡ area_of c → ResolvesSomeIn r v x y → ResolvesSome c v x y
resolves-of r c v x y is h =
    let g : ResolvesSomeIn (area_of c) v x y = subst (λ (z : Area). ResolvesSomeIn z v x y) is h in
    record { before = of-area c v x g.before; after = of-area c v y g.after; words = g.words }
