-- `open_town` sets each table to its one number, past the refusals.
use mathlib.Core.Path.{◌≡◌, refl, ap, ◌∙◌}
use Rattle.std.proofs.Common.{rules}
use Rattle.std.proofs.lemmas.Result.{err_from_is_err_and}
use Rattle.squares.specs.RefusalLaws.{none-refused}
use Rattle.tables.specs.Lent.{given_open}
use Rattle.model.specs.Model.{opening, meaning}
use Rattle.promises.specs.Promise.{bars}
use Rattle.promises.specs.PromiseLaws.{keeps-by}
use Rattle.tables.specs.Tables.{Tables}
use Rattle.zones.specs.OpenLaws.{open-long, open_kept}
use Rattle.zones.proofs.open.open_town.Goals as goal

pub returns-in_err-refuse_open : goal.returns-in_err-refuse_open
unfolding meaning
returns-in_err-refuse_open c =
    let p = err_from_is_err_and c.from_residual.result c.from_residual.ensures.1 in
    rw (p.1, p.2) (keeps-by _ _ _ (c.refuse_open.ensures ∙ ap (λ (t : Tables). bars t (opening c.args.o)) c.seen.ensures) c.in_err-refuse_open.was refl)

pub write_head-requires : goal.write_head-requires
write_head-requires c =
    let none : bars (given_open c.args.town) (opening c.args.o) ≡ 0 = none-refused (c.refuse_open.ensures ∙ ap (λ (t : Tables). bars t (opening c.args.o)) c.seen.ensures) c.in_ok-refuse_open.was in
    (open-long _ _ none).head

pub returns : goal.returns
returns c =
    let none : bars (given_open c.args.town) (opening c.args.o) ≡ 0 = none-refused (c.refuse_open.ensures ∙ ap (λ (t : Tables). bars t (opening c.args.o)) c.seen.ensures) c.in_ok-refuse_open.was in
    open_kept _ _ none c.write_head.ensures (c.fill.ensures.after (λ y h. search rules)) (c.fill-2.ensures.after (λ y h. search rules)) (c.fill-3.ensures.after (λ y h. search rules)) (c.fill-4.ensures.after (λ y h. search rules)) (c.fill-5.ensures.after (λ y h. search rules)) (c.fill-6.ensures.after (λ y h. search rules)) (c.fill-7.ensures.after (λ y h. search rules))
