-- However an input is cut into pieces, what is put into the buffers is the output of the whole.
use Rattle.std.specs.Prelude.{ℕ, ◌≡◌, List, [], ◌++◌, map, take}
use Rattle.std.specs.declared.result.Result.TheVariants.{Ok}
use Rattle.std.proofs.Common.{ap, ◌∙◌}
use Rattle.tables.specs.Tables.{Tables}
use Rattle.tables.specs.Lent.{both}
use Rattle.model.specs.Model.{Town, nowhere}
use Rattle.line.specs.Lines.{lines, feed}
use Rattle.season.specs.Output.{line_of, answers, output}
use Rattle.pieces.specs.Pieces.{held_in, holding, finish, counts, Fills}
use Rattle.replay.specs.Run.{start, after_lines, Ran}
use Rattle.replay.specs.RunLaws.{town-start, ran-so, end-text, end-tables}

-- so far
pub ran-text : {input text b : List ℕ} {t : Tables} → Ran input text t b → text ≡ answers nowhere (map line_of (feed [] input).ended)
ran-text {input} r = (ran-so r).said ∙ ap (λ (m : Town). answers m (map line_of (feed [] input).ended)) town-start

pub ran-tables : {input text b : List ℕ} {t : Tables} → Ran input text t b → t ≡ after_lines start (map line_of (feed [] input).ended)
ran-tables r = (ran-so r).tables

pub ran-held : {input text b : List ℕ} {t : Tables} → Ran input text t b → b ≡ holding (feed [] input).held
ran-held r = (ran-so r).held

-- at the input's end
pub whole : {input text b b' o o' : List ℕ} {t t' : Tables} {read wrote : ℕ} → Ran input text t b → Fills (finish t (held_in b)) (both t t') [] b b' o o' (Ok (counts read wrote)) → (text ++ take wrote o' ≡ output input) × (t' ≡ after_lines start (map line_of (lines input)))
unfolding output
whole r f = (end-text (ran-so r) f, end-tables (ran-so r) f)
