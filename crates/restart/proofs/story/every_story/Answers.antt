use Rattle.restart.proofs.Living.{acknowledged_least}
use Rattle.restart.proofs.Storied.{begins_over, begins_so, begins_untold, kept_behind, kept_between, kept_synced, refused_well, story_goes_on}
use Rattle.restart.specs.Parts.{device_of}
use Rattle.restart.specs.Story.{begun_with, untold}
use Rattle.restart.proofs.story.every_story.Goals as goal

pub returns-clause-formatted : goal.returns-clause-formatted
returns-clause-formatted g c size d formatted closed all =
    let now = g.D.Device.past_of d in
    kept_synced g.D.Device.past_of (untold size) d all
    (begins_untold size (c.nothing_opens.ensures size) now.disk.content (c.format_gives_nothing.ensures.gives size now.disk.content now.whole formatted closed))

pub returns-clause-moved : goal.returns-clause-moved
returns-clause-moved g c old engine is can =
    kept_synced g.D.Device.past_of (begun_with is.opened.geometry is.opened.given) (device_of engine) is.opened.synced
    (begins_so is.opened.geometry is.opened.given can (g.D.Device.past_of (device_of engine)).disk.content is.opened.gives)

pub returns-clause-crashed : goal.returns-clause-crashed
returns-clause-crashed g c story before after kept crash all =
    kept_synced g.D.Device.past_of story after all (kept (g.D.Device.past_of after).disk.content crash)

pub returns-clause-cut_short : goal.returns-clause-cut_short
returns-clause-cut_short g c story before after kept turned = kept_between g.D.Device.past_of story before kept c.written_back.ensures.gives after turned

pub returns-clause-behind : goal.returns-clause-behind
returns-clause-behind g c story before after kept turned = kept_behind g.D.Device.past_of story before kept c.written_back.ensures.gives after turned

pub returns-clause-readable : goal.returns-clause-readable
returns-clause-readable g c story before after e kept not =
    refused_well g.D.Device.past_of story before kept g.D.Device.failures after e c.one_answer.ensures.readable not

pub returns-clause-opened : goal.returns-clause-opened
returns-clause-opened g c story before engine kept opened =
    begins_over g.D.Device.past_of story before kept engine (record { geometry = c.one_answer.ensures.geometry; given = c.one_answer.ensures.given }) opened

pub returns-clause-ran : goal.returns-clause-ran
returns-clause-ran g c story past floor image size is low left = story_goes_on story past floor image size is low left

pub returns-clause-safe : goal.returns-clause-safe
returns-clause-safe g c past = acknowledged_least past.given.last past.replies

pub returns-clause-again : goal.returns-clause-again
returns-clause-again g c story d gives all = kept_synced g.D.Device.past_of story d all gives
