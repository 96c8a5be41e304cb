use Rattle.std.proofs.Common.{◌≡◌, refl}
use Rattle.store_image_half.specs.Layout.{heads_at}
use Rattle.store_image_half.proofs.Joined.{writes_none, writes_one}
use Rattle.store_image_half.proofs.whole.write_all_heads.Goals as goal

pub returns-clause-part : goal.returns-clause-part
returns-clause-part g c =
    let old = g.D.Device.past_of c.args.device.now in
    writes_one (λ n. n ≡ heads_at c.args.first) old old (g.D.Device.past_of c.write.new.self)
    (heads_at c.args.first) _ c.write.result refl c.write.ensures.time c.write.ensures.ok c.write.ensures.err
    (writes_none (λ n. n ≡ heads_at c.args.first) old)
