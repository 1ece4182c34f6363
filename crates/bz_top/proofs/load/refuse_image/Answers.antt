use Rattle.bz_top.proofs.load.refuse_image.Goals as goal

pub returns-in_default : goal.returns-in_default
returns-in_default g c = record { lab = c.refuse.ensures.lab; memory = λ is. absurd (c.in_default.not-Memory is); wrote = λ known. rw c.image_line.ensures at c.refuse.ensures.wrote }
