use Rattle.silc_show.proofs.Reading.{format_of, ready}
use Rattle.silc_show.proofs.contents.Contents.result.Goals as goal

pub computed-requires : goal.computed-requires
computed-requires c =
    let not = c.in_default in
    record {
      valid = c.requires.valid;
      issue = c.requires.issue;
      ready =
          ready c.args.issue.now.op c.args.issue.now.fmt (format_of c.args.image.now c.args.issue.now c.requires.issue)
          not.not-Input not.not-Const not.not-Addr not.not-Load not.not-Store not.not-Output;
    }
