pub mod Bid
pub mod BidLaws
