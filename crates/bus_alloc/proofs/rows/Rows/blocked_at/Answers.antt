use Rattle.std.proofs.Common.{◌∙◌, ap}
use Rattle.std.specs.Prelude.{slice_index}
use Rattle.bus_alloc.specs.declared.rows.FileRow.{FileRow}
use Rattle.bus_alloc.proofs.Blocked.{port_open}
use Rattle.bus_alloc.proofs.RowReads.{file_read, unit_read, routes_read}
use Rattle.bus_alloc.proofs.rows.Rows.blocked_at.Goals as goal

pub returns : goal.returns
returns c i small =
    let rows = c.args.self.now in
    let file = file_read rows c.requires.rows c.args.port c.file_number.result c.index-file.result.now c.requires.port
    c.file_number.ensures c.index-file.ensures in
    let unit = unit_read rows c.requires.rows c.args.unit c.index.result.now c.requires.unit c.index.ensures in
    port_open rows c.args.index c.args.unit c.args.port i c.word.result c.all_used.result c.intersection-routes.result
    (c.word.ensures ∙ ap (λ (row : FileRow). slice_index row.written.words c.args.index) file)
    (routes_read c.intersection-routes.result.bits _ _ _ _ unit file c.intersection-routes.ensures)
    (c.all_used.ensures i small)
