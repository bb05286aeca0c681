-- The text fits, so only the number of strokes is refused.
use Rattle.std.proofs.Common.{refl}
use Rattle.buffer_rule.proofs.PageLaws.{printed, refused}
use Rattle.buffer_rule.proofs.put_page.Goals as goal

pub returns-in-Ok : goal.returns-in-Ok
returns-in-Ok c = printed c.args.strokes c.args.out.now c.requires c.in-Ok.ensures.text_after refl

pub returns-in-Err : goal.returns-in-Err
returns-in-Err c =
    refused c.args.strokes c.args.out.now c.requires c.in-Err.ensures.text_after refl c.refusal.ensures c.write_refusal.ensures
