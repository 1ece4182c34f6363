use Rattle.bz_crown.specs.Duties.{crown_of}
use Rattle.bz_crown.proofs.Acting.{askable, cause, ends, few, sound}
use Rattle.bz_crown.proofs.Staying.{stable}
use Rattle.bz_crown.proofs.split_inner_root.SplitInnerRootTask.learnt.Goals as goal

pub returns : goal.returns
returns c = let t = c.args.self.now in record {
  stable = λ stage s after same f good l. stable (crown_of t) (sound (crown_of t)) s after l t.phase stage f;
  askable = λ s todo same f good e. askable t.config (crown_of t) t.phase s todo same f good e;
  cause = λ s seen same f d. cause t.config (crown_of t) t.phase s seen f d;
  few = few t.phase;
  once = λ s f p. absurd (cc);
  ends = λ s outcome f e. ends (crown_of t) t.phase s outcome f e;
}
