-- `ludo_session_page` meets its contract: `lay_out` answers what `lay_out_of` gives, which fixes code and result. Assumes
-- nothing.
use mathlib.Core.Path.{refl}
use Rattle.session_page.specs.LayOut.{refusal_of}
use Rattle.ludopoplar.specs.Pages.{page_as}
use Rattle.ludopoplar.proofs.CountLaws.{ends}
use Rattle.ludopoplar.proofs.PageLaws.{laid}
use Rattle.ludopoplar.proofs.ludo_session_page.Goals as goal

pub returns : goal.returns
unfolding page_as
returns c =
    let e = ends refusal_of _ _ _ _ c.counted.ensures.code c.counted.ensures.count page_as (λ n b. refl) (λ cause b. refl) c.lay_out.result c.map_err-laid.ensures.cases c.lay_out.new.page in
    let p = laid _ _ _ _ _ _ _ _ c.lay_out.ensures.page_after c.lay_out.ensures.lays c.lay_out.ensures.tells e in
    record { length_after = p.0; lays = p.1.0; tells = p.1.1 }
