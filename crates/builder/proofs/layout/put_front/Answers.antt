-- `put_front` meets its contract: header, latches and outputs, one after another. Assumes nothing.
use Rattle.std.proofs.Common.{◌∙◌, refl, length}
use Rattle.builder.specs.Private.Monitor.{told}
use Rattle.builder.proofs.LayoutLaws as layout
use Rattle.builder.proofs.layout.put_front.Goals as goal

pub returns-in-Some : goal.returns-in-Some
returns-in-Some c =
    let a = c.args in
    let k = c.put_constants-p.ensures in
    let l = c.put_latches-q.ensures in
    let f = layout.front-all a.happy.now a.condemned.now a.signals a.constants (length a.happy.now) a.gates a.made.accept.0 (told a.made.second) refl c.requires.2 a.net.now _ _ k.1 l.1 in
    rw (l.0, k.0, c.after.ensures, c.put_header.ensures, c.output_count.ensures.0, c.is_some.ensures, ← layout.told-is a.made.second)
    (layout.two_stored _ _ a.made.accept.0 a.made.second _ c.in-Some.is ∙ f)

pub returns-in_default : goal.returns-in_default
returns-in_default c =
    let a = c.args in
    let k = c.put_constants-p.ensures in
    let l = c.put_latches-q.ensures in
    let f = layout.front-all a.happy.now a.condemned.now a.signals a.constants (length a.happy.now) a.gates a.made.accept.0 (told a.made.second) refl c.requires.2 a.net.now _ _ k.1 l.1 in
    rw (l.0, k.0, c.after.ensures, c.put_header.ensures, c.output_count.ensures.0, c.is_some.ensures, ← layout.told-is a.made.second)
    (layout.one_stored _ _ a.made.accept.0 a.made.second c.in_default.is ∙ f)
