use Rattle.std.proofs.Common.{◌≡◌, ◌++◌, ◌∷◌, [], true, OnOk, ap, subst, sym, ◌∙◌}
use Rattle.std.specs.List.{list_all}
use Rattle.request_log.specs.Field.{field}
use Rattle.request_log.specs.Lines.{is_printable}
use Rattle.request_log.specs.Times.{marked}
use Rattle.request_log.proofs.Dates.{marked_printable}
use Rattle.request_log.proofs.times.put_date.Goals as goal

pub put_printable-requires : goal.put_printable-requires
put_printable-requires g c =
    subst (λ value. list_all is_printable value ≡ true) (sym c.marked.ensures)
    (marked_printable c.to_octets.result c.to_octets.ensures.is_time)

pub returns : goal.returns
returns g c fields held =
    subst (λ value. OnOk c.put_printable.result (g.W.FieldWriter.Holds c.put_printable.new.self (fields ++ field c.args.name value ∷ [])))
    (c.marked.ensures ∙ ap marked c.to_octets.ensures.octets) (c.put_printable.ensures fields held)
